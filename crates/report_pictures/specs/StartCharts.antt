-- What a migration costs from each start as a picture: the working set by window, and curves below it on the same axis.
-- This project's own.
use Rattle.std.specs.Prelude.{◌≡◌, ℕ, ◌+◌, ◌-◌, ◌/◌, ◌^◌, max, min, Bool, true, false, not, if◌then◌else◌}
use Rattle.std.specs.Prelude.{List, [], ◌++◌, codes, Option, None, Some}
use Rattle.std.specs.List.{flat_map, fold}
use Rattle.predictions.specs.Units.Scales.{TraceScale, micros_of}
use Rattle.predictions.specs.declared.units.limits.Limits.{Limits}
use Rattle.migration_model.specs.Rates.{MigrationSettings}
use Rattle.migration_model.specs.Windows.{WorkingSets}
use Rattle.predictions.specs.Redrawn.Errors.{SampleErrors}
use Rattle.predictions.specs.Starts.Costs.{CostAtStart}
use Rattle.predictions.specs.Starts.Texts.{down_spread}
use Rattle.predictions.specs.Quantities.{bytes_text, moment_text, time_text}
use Rattle.sweep_report.specs.Lines.{field}
use Rattle.report_pictures.specs.Labels.{AreLabels, place_on}
use Rattle.report_pictures.specs.Panels.{frame_text, key_mark, level_of, span_mark}
use Rattle.report_pictures.specs.ReportCharts.{windows_marks}
use Rattle.report_pictures.specs.Spans.{axis_over, axis_with, panel_with}
use Rattle.report_pictures.specs.Svg.{area_of, placed_text, rect_text, text_end, text_head}
use Rattle.report_pictures.specs.declared.axis.Axis.{Axis}
use Rattle.report_pictures.specs.declared.panel.Panel.{Panel}
use Rattle.report_pictures.specs.declared.start_curves.Quantity.{Quantity}
use Rattle.report_pictures.specs.declared.start_curves.Quantity.TheVariants as quantities

-- the number of a start that a curve shows: milliseconds, milliseconds, and MiB
abbrev pub quantity_of : Quantity → CostAtStart → ℕ
quantity_of quantities.Downtime at = at.cost.downtime / 1_000
quantity_of quantities.Time at = at.cost.time / 1_000
quantity_of quantities.Sent at = at.cost.bytes / 2 ^ 20

abbrev pub shown_of : Quantity → CostAtStart → ℕ
shown_of quantity at = min (quantity_of quantity at) (2 ^ 50)

abbrev pub title_words : Quantity → List ℕ
title_words quantities.Downtime = codes "Downtime by start, in ms"
title_words quantities.Time = codes "Time by start, in ms"
title_words quantities.Sent = codes "Sent by start, in MiB"

-- the panel of a curve, whose greatest number is a start's, but at least this one
abbrev pub curve_panel : Quantity → List CostAtStart → ℕ → ℕ → Panel
curve_panel quantity costs least top =
    panel_with top 90 (fold (λ most at. max (shown_of quantity at) most) (max least 1) costs)

-- the axis from the first start to the last
abbrev pub starts_axis : List CostAtStart → Axis
starts_axis costs = axis_with (fold (λ first (at : CostAtStart). min at.start first) (2 ^ 64 - 1) costs)
    (fold (λ last (at : CostAtStart). max at.start last) 0 costs)

-- the points of the starts that are known, or of those whose migration outlasts the trace
abbrev pub belongs : Bool → CostAtStart → Bool
belongs true at = at.cost.is_late
belongs false at = not at.cost.is_late

unfoldable pub point_text : Axis → Panel → Quantity → CostAtStart → List ℕ
point_text axis panel quantity at = field [] (place_on axis at.start)
    ++ (field (codes ",") (level_of panel (shown_of quantity at)) ++ codes " ")

abbrev pub point_if : Axis → Panel → Quantity → Bool → CostAtStart → List ℕ
point_if axis panel quantity is_late at = if belongs is_late at then point_text axis panel quantity at else []

abbrev pub points_of : Axis → Panel → Quantity → Bool → List CostAtStart → List ℕ
points_of axis panel quantity is_late costs = flat_map (point_if axis panel quantity is_late) costs

abbrev pub curve_class : Bool → List ℕ
curve_class is_late = if is_late then codes "late" else codes "known"

unfoldable pub curve_head : Bool → List ℕ
curve_head is_late = codes "<polyline class=\"" ++ (curve_class is_late ++ codes "\" points=\"")

unfoldable pub curve_text : Axis → Panel → Quantity → Bool → List CostAtStart → List ℕ
curve_text axis panel quantity is_late costs =
    curve_head is_late ++ (points_of axis panel quantity is_late costs ++ codes "\"/>\n")

-- a line over a panel, at a start
abbrev pub start_mark : Axis → Panel → List ℕ → Option CostAtStart → List ℕ
start_mark axis panel class None = []
start_mark axis panel class (Some at) =
    span_mark class panel (place_on axis at.start) (place_on axis at.start + 2)

-- the best and the worst start over a panel
unfoldable pub chosen_marks : Axis → Panel → Option CostAtStart → Option CostAtStart → List ℕ
chosen_marks axis panel best worst =
    start_mark axis panel (codes "best") best ++ start_mark axis panel (codes "worst") worst

-- a panel with a curve
unfoldable pub curve_marks : Axis → Panel → Quantity → List CostAtStart → Option CostAtStart → Option CostAtStart
    → List ℕ
curve_marks axis panel quantity costs best worst = frame_text panel (title_words quantity)
    ++ (curve_text axis panel quantity true costs ++ (curve_text axis panel quantity false costs
    ++ chosen_marks axis panel best worst))

-- the line of the limit, and what the colors mean
abbrev pub limit_line : Panel → ℕ → List ℕ
limit_line panel limit = rect_text (codes "limit") (area_of 90 (level_of panel limit) 800 1)

unfoldable pub limit_keys : Panel → List ℕ
limit_keys panel = key_mark panel (codes "limit") 330 (codes "limit") ++ (key_mark panel (codes "best") 420
    (codes "best start") ++ (key_mark panel (codes "worst") 540 (codes "worst start")
    ++ key_mark panel (codes "latekey") 670 (codes "ends after the trace")))

unfoldable pub limit_marks : Panel → ℕ → List ℕ
limit_marks panel limit = limit_line panel limit ++ limit_keys panel

-- the three curves, from the top down
unfoldable pub curves_marks : Axis → ℕ → List CostAtStart → Option CostAtStart → Option CostAtStart → List ℕ
curves_marks axis limit costs best worst =
    curve_marks axis (curve_panel quantities.Downtime costs limit 300) quantities.Downtime costs best worst
    ++ (limit_marks (curve_panel quantities.Downtime costs limit 300) limit
    ++ (curve_marks axis (curve_panel quantities.Time costs 1 440) quantities.Time costs best worst
    ++ curve_marks axis (curve_panel quantities.Sent costs 1 580) quantities.Sent costs best worst))

-- the line of a chosen start
unfoldable pub start_words : TraceScale → List ℕ → ℕ → ℕ → Option SampleErrors → List ℕ
start_words scale name start downtime errors =
    name ++ (moment_text (micros_of scale start) ++ (codes ": downtime " ++ (time_text downtime
    ++ down_spread errors)))

unfoldable pub cost_words : CostAtStart → List ℕ
cost_words at = codes ", time " ++ (time_text at.cost.time ++ (codes ", " ++ (bytes_text at.cost.bytes
    ++ codes " sent")))

unfoldable pub chosen_line : TraceScale → List ℕ → ℕ → CostAtStart → List ℕ
chosen_line scale name y at =
    text_head (codes "foot") 90 y ++ (start_words scale name at.start at.cost.downtime at.errors
    ++ (cost_words at ++ text_end))

abbrev pub chosen_words : TraceScale → List ℕ → ℕ → Option CostAtStart → List ℕ
chosen_words scale name y None = []
chosen_words scale name y (Some at) = chosen_line scale name y at

-- This is a whole picture of starts. Of its head, which has its size and its colors, nothing is said.
pub record IsStartsChart (settings : MigrationSettings) (scale : TraceScale) (limits : Limits) (sets : WorkingSets)
    (costs : List CostAtStart) (best worst : Option CostAtStart) (text : List ℕ) : Type 0 where
  pub head : List ℕ
  pub labels : List ℕ
  pub are_labels : AreLabels (axis_over (starts_axis costs) settings.window sets.windows) (Some scale) 670 labels
  pub text_is : text ≡ head ++ (placed_text (codes "head") 90 36 (codes "When to migrate")
      ++ (windows_marks (axis_over (starts_axis costs) settings.window sets.windows) settings.window sets.windows
      ++ (curves_marks (axis_over (starts_axis costs) settings.window sets.windows) (limits.downtime / 1_000) costs
      best worst ++ (labels ++ (chosen_words scale (codes "Best start at ") 746 best
      ++ (chosen_words scale (codes "Worst start at ") 768 worst ++ codes "</svg>\n"))))))
