-- Where the hot pages of a guest lie: a strip of cells, each of which stands for a part of the pages. This project's
-- own.
use Rattle.std.specs.Prelude.{ℕ, ◌+◌, ◌-◌, ◌*◌, ◌==◌, ◌&&◌, nat_le, nat_lt, max, min, if◌then◌else◌, List, [], ◌∷◌}
use Rattle.std.specs.Prelude.{◌++◌, codes}
use Rattle.std.specs.Int.{div_ceil}
use Rattle.std.specs.List.{count_by, flat_map, range_with_len}

-- the first page of a cell, if so many cells stand for `count` pages
abbrev pub first_page : ℕ → ℕ → ℕ → ℕ
first_page cells count cell = div_ceil (cell * count) (max cells 1)

-- how many of some pages lie from one page up to another
abbrev pub count_within : List ℕ → ℕ → ℕ → ℕ
count_within pages from to = count_by (λ page. nat_le from page && nat_lt page to) pages

-- the shade of a cell, by how many of its pages are hot: a blank for none, the characters U+2591, U+2592 and U+2593 in
-- UTF-8 for less than a third, less than two thirds and more, and U+2588 for all
abbrev pub shade_of : ℕ → ℕ → List ℕ
shade_of hot pages = if hot == 0 then 32 ∷ []
    else (if nat_le pages hot then 226 ∷ 150 ∷ 136 ∷ []
    else (if nat_lt (hot * 3) pages then 226 ∷ 150 ∷ 145 ∷ []
    else (if nat_lt (hot * 3) (pages * 2) then 226 ∷ 150 ∷ 146 ∷ [] else 226 ∷ 150 ∷ 147 ∷ [])))

-- a cell
abbrev pub cell_text : List ℕ → ℕ → ℕ → ℕ → List ℕ
cell_text pages cells count cell =
    shade_of (count_within pages (first_page cells count cell) (first_page cells count (cell + 1)))
    (first_page cells count (cell + 1) - first_page cells count cell)

-- a strip as wide as a line has room, or with a cell for each page
abbrev pub cells_for : ℕ → ℕ → ℕ
cells_for width count = min (width - 3) count

unfoldable pub strip_text : ℕ → ℕ → List ℕ → List ℕ
strip_text width count pages = codes " |"
    ++ (flat_map (cell_text pages (cells_for width count) count) (range_with_len 0 (cells_for width count))
    ++ codes "|\n")

-- the lines of the runs of the hot pages, and below them the strip; of no page there is neither
abbrev pub spots_text : ℕ → ℕ → List ℕ → List ℕ → List ℕ
spots_text width count [] lines = []
spots_text width count (page ∷ pages) lines = lines ++ strip_text width count (page ∷ pages)
