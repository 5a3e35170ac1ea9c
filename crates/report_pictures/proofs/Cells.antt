-- The cells of the first columns of a row, and blocks one after another.
use Rattle.std.proofs.Common.{◌≡◌, ℕ, ◌+◌, List, [], ◌∷◌, ◌++◌, slice_index, slice_index_or, codes, replicate}
use Rattle.std.proofs.Common.{append_assoc, ap, sym, ◌∙◌, arith}
use Rattle.std.specs.Fmt.{decimal}
use Rattle.std.specs.List.{concat, flat_map, range_with_len}
use Rattle.std.proofs.lemmas.List.{append-nil, map-id, replicate-append-replicate}
use Rattle.std.proofs.lemmas.List.Concat.{flat_map-append}
use Rattle.std.proofs.lemmas.List.Folds.{concat-append}
use Rattle.std.proofs.lemmas.List.FromFn.{map-range_with_len_more}
use Rattle.predictions.specs.Starts.Texts.{right_in}

abbrev pub name_cell : List ℕ → List (List ℕ) → ℕ → List ℕ
name_cell widths names column = codes "  " ++ right_in (slice_index widths column) (slice_index_or names column [])

abbrev pub number_cell : List ℕ → List ℕ → ℕ → List ℕ
number_cell widths numbers column =
    codes "  " ++ right_in (slice_index widths column) (decimal (slice_index numbers column))

-- the cells of the first `n` columns
abbrev pub first_cells : (ℕ → List ℕ) → ℕ → List ℕ
first_cells cell n = flat_map cell (range_with_len 0 n)

one_more : (n : ℕ) → range_with_len 0 (n + 1) ≡ range_with_len 0 n ++ n ∷ []
one_more n = sym (map-id (range_with_len 0 (n + 1))) ∙ map-range_with_len_more (λ (k : ℕ). k) 0 n n (omega arith)
    ∙ ap (λ (l : List ℕ). l ++ n ∷ []) (map-id (range_with_len 0 n))

-- a cell more
pub one_cell_more : (cell : ℕ → List ℕ) (n : ℕ) (old so_far new : List ℕ) → so_far ≡ old ++ first_cells cell n
    → new ≡ so_far ++ cell n → new ≡ old ++ first_cells cell (n + 1)
one_cell_more cell n old so_far new before made =
    let step : first_cells cell (n + 1) ≡ first_cells cell n ++ cell n =
    ap (flat_map cell) (one_more n) ∙ flat_map-append cell (range_with_len 0 n) (n ∷ [])
    ∙ ap (λ (l : List ℕ). first_cells cell n ++ l) (append-nil (cell n)) in
    made ∙ ap (λ (l : List ℕ). l ++ cell n) before ∙ append_assoc old (first_cells cell n) (cell n)
    ∙ ap (λ (l : List ℕ). old ++ l) (sym step)

-- a block more
pub one_block_more : (n : ℕ) (block old so_far new : List ℕ) → so_far ≡ old ++ concat (replicate n block)
    → new ≡ so_far ++ block → new ≡ old ++ concat (replicate (n + 1) block)
one_block_more n block old so_far new before made =
    let step : concat (replicate (n + 1) block) ≡ concat (replicate n block) ++ block =
    ap concat (sym (replicate-append-replicate {A = List ℕ} n 1 block))
    ∙ concat-append (replicate n block) (block ∷ [])
    ∙ ap (λ (l : List ℕ). concat (replicate n block) ++ l) (append-nil block) in
    made ∙ ap (λ (l : List ℕ). l ++ block) before ∙ append_assoc old (concat (replicate n block)) block
    ∙ ap (λ (l : List ℕ). old ++ l) (sym step)
