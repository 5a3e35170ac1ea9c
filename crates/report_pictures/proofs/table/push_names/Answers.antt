use Rattle.std.proofs.Common.{◌++◌, List, [], ℕ, ap, ◌∙◌, sym, codes, map, slice_index, arith, Bor}
use Rattle.std.proofs.lemmas.List.{get_or-map}
use Rattle.predictions.specs.Starts.Texts.{right_in}
use Rattle.report_pictures.proofs.Cells.{name_cell, one_cell_more}
use Rattle.report_pictures.proofs.table.push_names.Goals as goal

pub loop-column-preserved : goal.loop-column-preserved
loop-column-preserved c =
    let width = slice_index c.args.widths.now c.loop-column.column in
    let now : Bor (List ℕ) → List ℕ = λ name. name.now in
    one_cell_more (name_cell c.args.widths.now (map now c.args.names.now)) c.loop-column.column
    c.args.text.now.items c.loop-column.text.items c.push_cell.new.text.items c.loop-column.invariant
    (c.in_ok-push_cell.ensures
    ∙ ap (λ (words : List ℕ). c.loop-column.text.items ++ (codes "  " ++ right_in width words))
    (c.as_bytes.ensures.value ∙ sym (get_or-map now c.args.names.now c.loop-column.column _ [] (omega arith))))
