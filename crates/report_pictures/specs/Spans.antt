-- Which ticks a picture shows. This project's own.
use Rattle.std.specs.Prelude.{ℕ, ◌+◌, ◌*◌, max, min, List}
use Rattle.std.specs.List.{fold}
use Rattle.migration_model.specs.Windows.{WindowRow}
use Rattle.report_pictures.specs.Labels.{capped}
use Rattle.report_pictures.specs.declared.axis.Axis.{Axis}
use Rattle.report_pictures.specs.declared.panel.Panel.{Panel}

abbrev pub axis_with : ℕ → ℕ → Axis
axis_with first last = record { first = first; last = last }

abbrev pub panel_with : ℕ → ℕ → ℕ → Panel
panel_with top height most = record { top = top; height = height; most = most }

-- where windows of a length begin and end, and an axis that covers them too
abbrev pub window_from : ℕ → WindowRow → ℕ
window_from length row = capped (row.number * length)

abbrev pub window_to : ℕ → WindowRow → ℕ
window_to length row = capped (capped (row.number + 1) * length)

abbrev pub axis_over : Axis → ℕ → List WindowRow → Axis
axis_over axis length rows = axis_with (fold (λ first row. min (window_from length row) first) axis.first rows)
    (fold (λ last row. max (window_to length row) last) axis.last rows)
