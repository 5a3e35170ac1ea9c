use Rattle.std.proofs.Common.{◌≡◌, ◌++◌, List, [], ◌∷◌, ℕ, ap, ◌∙◌, sym, length, map, max, arith, Bor, slice_index}
use Rattle.std.specs.Fmt.{decimal}
use Rattle.std.specs.List.{range_with_len}
use Rattle.std.proofs.lemmas.List.{get_or-map}
use Rattle.std.proofs.lemmas.List.FromFn.{map-range_with_len_more}
use Rattle.report_pictures.specs.Columns.{width_of}
use Rattle.report_pictures.proofs.table.column_widths.Goals as goal

pub loop-column-preserved : goal.loop-column-preserved
loop-column-preserved c =
    let n = c.loop-column.column in
    let now : Bor (List ℕ) → List ℕ = λ name. name.now in
    let wide : ℕ → ℕ = width_of (map now c.args.names.now) c.args.mosts.now in
    let is : c.column_width.result ≡ wide n =
    c.column_width.ensures ∙ ap (λ (l : List ℕ). max (length (decimal (slice_index c.args.mosts.now n))) (length l))
    (sym (get_or-map now c.args.names.now n _ [] (omega arith))) in
    c.in_ok-push.ensures.items ∙ ap (λ (l : List ℕ). l ++ c.column_width.result ∷ []) c.loop-column.invariant
    ∙ ap (λ (k : ℕ). map wide (range_with_len 0 n) ++ k ∷ []) is
    ∙ sym (map-range_with_len_more wide 0 n n (omega arith))
