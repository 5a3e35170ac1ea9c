-- Panels of a picture: a plot with a title above it, and marks in it. A panel is as high as the number `most`. This
-- project's own.
use Rattle.std.specs.Prelude.{ℕ, ◌+◌, ◌-◌, ◌≤◌, ◌==◌, nat_lt, max, if◌then◌else◌, List, [], ◌++◌, codes}
use Rattle.std.specs.Fmt.{decimal}
use Rattle.report_pictures.specs.Axes.{share_of}
use Rattle.report_pictures.specs.Svg.{area_of, placed_text, rect_text}
use Rattle.report_pictures.specs.declared.panel.Panel.{Panel}
use Rattle.report_pictures.specs.declared.svg.Area.{Area}

-- a panel that lies in a picture
pub record IsPanel (panel : Panel) : Type 0 where
  pub top : panel.top ≤ 1_000
  pub height : panel.height ≤ 1_000

abbrev pub bottom_of : Panel → ℕ
bottom_of panel = panel.top + panel.height

-- where a number is
abbrev pub level_of : Panel → ℕ → ℕ
level_of panel number = bottom_of panel - share_of number panel.most panel.height

-- how high a bar for a number is: no lower than 1, but 0 for 0
abbrev pub bar_height : Panel → ℕ → ℕ
bar_height panel number = if number == 0 then 0 else max (share_of number panel.most panel.height) 1

-- where a bar begins and ends: there is a gap after it if there is room for one
abbrev pub parted_of : ℕ → ℕ → ℕ × ℕ
parted_of from to = (from, if nat_lt 3 (to - from) then to - 1 else to)

-- a bar for a number, on top of others of a height; none for 0
abbrev pub bar_area : Panel → ℕ × ℕ → ℕ → ℕ → Area
bar_area panel column below number =
    area_of column.0 (bottom_of panel - (below + bar_height panel number)) (max (column.1 - column.0) 1)
    (bar_height panel number)

unfoldable pub bar_mark : List ℕ → Panel → ℕ × ℕ → ℕ → ℕ → List ℕ
bar_mark class panel column below number =
    if number == 0 then [] else rect_text class (bar_area panel column below number)

-- an area over the whole height of a panel, from one place to another
abbrev pub span_mark : List ℕ → Panel → ℕ → ℕ → List ℕ
span_mark class panel from to = rect_text class (area_of from panel.top (to - from) panel.height)

-- the title, and the lines and numbers at the top and at the bottom
abbrev pub rule_mark : List ℕ → ℕ → ℕ → List ℕ
rule_mark class y number = rect_text class (area_of 90 y 800 1) ++ placed_text (codes "end") 82 (y + 5) (decimal number)

unfoldable pub frame_text : Panel → List ℕ → List ℕ
frame_text panel title = placed_text (codes "title") 90 (panel.top - 14) title
    ++ (rule_mark (codes "grid") panel.top panel.most ++ rule_mark (codes "line") (bottom_of panel) 0)

-- what a color means
unfoldable pub key_mark : Panel → List ℕ → ℕ → List ℕ → List ℕ
key_mark panel class x words = rect_text class (area_of x (panel.top - 24) 10 10)
    ++ placed_text (codes "key") (x + 15) (panel.top - 14) words
