-- Pieces of an SVG picture. This project's own.
use Rattle.std.specs.Prelude.{ℕ, List, ◌++◌, codes}
use Rattle.sweep_report.specs.Lines.{field}
use Rattle.report_pictures.specs.declared.svg.Area.{Area}

abbrev pub area_of : ℕ → ℕ → ℕ → ℕ → Area
area_of x y width height = record { x = x; y = y; width = width; height = height }

-- a rectangle of a class
unfoldable pub corner_text : Area → List ℕ
corner_text area = field (codes "\" x=\"") area.x ++ field (codes "\" y=\"") area.y

unfoldable pub size_text : Area → List ℕ
size_text area = field (codes "\" width=\"") area.width ++ (field (codes "\" height=\"") area.height ++ codes "\"/>\n")

unfoldable pub rect_text : List ℕ → Area → List ℕ
rect_text class area = codes "<rect class=\"" ++ (class ++ (corner_text area ++ size_text area))

-- words of a class at a place
unfoldable pub place_text : ℕ → ℕ → List ℕ
place_text x y = field (codes "\" x=\"") x ++ (field (codes "\" y=\"") y ++ codes "\">")

unfoldable pub text_head : List ℕ → ℕ → ℕ → List ℕ
text_head class x y = codes "<text class=\"" ++ (class ++ place_text x y)

abbrev pub text_end : List ℕ
text_end = codes "</text>\n"

unfoldable pub placed_text : List ℕ → ℕ → ℕ → List ℕ → List ℕ
placed_text class x y words = text_head class x y ++ (words ++ text_end)
