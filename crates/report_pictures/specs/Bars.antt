-- Bars of block characters for a terminal. This project's own.
use Rattle.std.specs.Prelude.{ℕ, ◌-◌, ◌==◌, Bool, if◌then◌else◌, List, [], ◌∷◌, ◌++◌, replicate, codes}
use Rattle.std.specs.List.{concat, flat_map}
use Rattle.migration_model.specs.Windows.{WindowRow}
use Rattle.migration_model.specs.Rounds.{PlannedRound}
use Rattle.std.specs.Prelude.{length}
use Rattle.report_pictures.specs.Axes.{share_of}

-- a part of a bar: the character that it is drawn with, what sets its color, and the number that it stands for
pub record BarPart : Type 0 where
  pub block : List ℕ
  pub color : List ℕ
  pub count : ℕ

-- what sets a color on a terminal, by its number: an escape character and a code
abbrev pub color_code : List ℕ → List ℕ
color_code number = 27 ∷ (91 ∷ (number ++ 109 ∷ []))

-- the characters U+2588, U+2593 and U+2591 in UTF-8: full, dark and light
abbrev pub full_part : ℕ → BarPart
full_part count = record { block = 226 ∷ 150 ∷ 136 ∷ []; color = color_code (codes "34"); count = count }

abbrev pub dark_part : ℕ → BarPart
dark_part count = record { block = 226 ∷ 150 ∷ 147 ∷ []; color = color_code (codes "36"); count = count }

abbrev pub light_part : ℕ → BarPart
light_part count = record { block = 226 ∷ 150 ∷ 145 ∷ []; color = color_code (codes "33"); count = count }

-- a part over some cells, in its color if colors are on; of no cells it is empty
unfoldable pub part_text : Bool → BarPart → ℕ → List ℕ
part_text colors part cells =
    if cells == 0 then []
    else (if colors then part.color else []) ++ (concat (replicate cells part.block)
    ++ (if colors then color_code (codes "0") else []))

-- a bar of some parts, where one for the number `most` takes all of the room
abbrev pub bar_text : Bool → ℕ → ℕ → List BarPart → List ℕ
bar_text colors most room parts = flat_map (λ part. part_text colors part (share_of part.count most room)) parts

-- what a part of a bar means
abbrev pub key_text : Bool → BarPart → List ℕ → List ℕ
key_text colors part name = codes " " ++ (part_text colors part 1 ++ name)

-- the bar of a window: its pages that were written in the previous window, earlier, and never before
abbrev pub window_parts : WindowRow → List BarPart
window_parts row = full_part row.again ∷ dark_part (row.pages - row.fresh - row.again) ∷ light_part row.fresh ∷ []

unfoldable pub window_key : Bool → List ℕ
window_key colors = key_text colors (full_part 0) (codes " again") ++ (key_text colors (dark_part 0) (codes " earlier")
    ++ (key_text colors (light_part 0) (codes " fresh") ++ 10 ∷ []))

-- the bar of a round: its pages that are sent, and those that are not
abbrev pub round_parts : PlannedRound → List BarPart
round_parts round =
    full_part (length round.sent) ∷ light_part (length round.pages - length round.sent) ∷ []

unfoldable pub round_key : Bool → List ℕ
round_key colors = key_text colors (full_part 0) (codes " sent")
    ++ (key_text colors (light_part 0) (codes " skipped") ++ 10 ∷ [])
