-- Aligned tables: a column is as wide as its name and its greatest number. This project's own.
use Rattle.std.specs.Prelude.{ℕ, ◌+◌, ◌-◌, max, List, [], ◌∷◌, ◌++◌, length, codes, map, slice_index, slice_index_or}
use Rattle.std.specs.Fmt.{decimal}
use Rattle.std.specs.List.{flat_map, fold, range_with_len, sum_by}
use Rattle.predictions.specs.Starts.Texts.{right_in}
use Rattle.report_pictures.specs.Bars.{BarPart, bar_text}
use Rattle.view_kinds.specs.declared.style.Style.{Style}

-- the greatest of a number of each of some things, or 0 of none
abbrev pub most_of : {X : Type 0} → (X → ℕ) → List X → ℕ
most_of number xs = fold (λ most x. max (number x) most) 0 xs

-- how wide columns with these names and greatest numbers are
abbrev pub width_of : List (List ℕ) → List ℕ → ℕ → ℕ
width_of names mosts column =
    max (length (decimal (slice_index mosts column))) (length (slice_index_or names column []))

abbrev pub widths_of : List (List ℕ) → List ℕ → List ℕ
widths_of names mosts = map (width_of names mosts) (range_with_len 0 (length names))

-- what is left of a line for a bar, with two spaces before it and before each column
abbrev pub bar_room : ℕ → List ℕ → ℕ
bar_room width widths = width - 2 - sum_by (λ column. column + 2) widths

-- words or numbers at the right ends of columns
unfoldable pub names_text : List ℕ → List (List ℕ) → List ℕ
names_text widths names = flat_map (λ column. codes "  " ++ right_in (slice_index widths column)
    (slice_index_or names column [])) (range_with_len 0 (length widths))

unfoldable pub numbers_text : List ℕ → List ℕ → List ℕ
numbers_text widths numbers = flat_map (λ column. codes "  " ++ right_in (slice_index widths column)
    (decimal (slice_index numbers column))) (range_with_len 0 (length widths))

-- a row of a table of these widths, with its bar beside it
unfoldable pub row_text : Style → List ℕ → ℕ → List ℕ → List BarPart → List ℕ
row_text style widths most numbers parts = numbers_text widths numbers
    ++ (codes "  " ++ (bar_text style.colors most (bar_room style.width widths) parts ++ 10 ∷ []))
