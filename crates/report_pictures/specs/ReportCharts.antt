-- A report as a picture: the working set by window, and the rounds below it on an axis of their own. This project's
-- own.
use Rattle.std.specs.Prelude.{◌≡◌, ℕ, ◌+◌, ◌-◌, max, List, [], ◌++◌, length, codes}
use Rattle.std.specs.Prelude.{Option, None, Some}
use Rattle.std.specs.List.{flat_map, fold}
use Rattle.predictions.specs.Units.Scales.{TraceScale}
use Rattle.migration_model.specs.Rates.{MigrationSettings, word_of}
use Rattle.migration_model.specs.Rounds.{MigrationPlan, PlannedRound, total_of}
use Rattle.migration_model.specs.Windows.{WindowRow, WorkingSets}
use Rattle.sweep_report.specs.Lines.{field}
use Rattle.report_pictures.specs.Labels.{AreLabels, capped, place_on}
use Rattle.report_pictures.specs.MeasuredScreens.{named_moment, named_size, named_time}
use Rattle.report_pictures.specs.Panels.{bar_height, bar_mark, frame_text, key_mark, level_of, parted_of}
use Rattle.report_pictures.specs.Panels.{span_mark}
use Rattle.report_pictures.specs.Spans.{axis_over, axis_with, panel_with}
use Rattle.report_pictures.specs.Svg.{area_of, rect_text, text_end, text_head}
use Rattle.report_pictures.specs.WindowBars.{window_bars}
use Rattle.report_pictures.specs.declared.axis.Axis.{Axis}
use Rattle.report_pictures.specs.declared.panel.Panel.{Panel}

-- the end of a migration, and the axis of its rounds
abbrev pub end_of : MigrationPlan → ℕ
end_of plan = capped (plan.stop + plan.down)

abbrev pub rounds_axis : MigrationSettings → MigrationPlan → Axis
rounds_axis settings plan = axis_with settings.start (end_of plan)

-- the line on the trace
unfoldable pub sizes_words : ℕ → ℕ → List ℕ
sizes_words pages size = field (codes "A trace of ") pages ++ field (codes " pages of ") size

unfoldable pub writes_words : ℕ → ℕ → List ℕ
writes_words writes length = field (codes " bytes, ") writes
    ++ (field (codes " writes; windows of ") length ++ codes " ticks")

unfoldable pub trace_mark : ℕ → ℕ → ℕ → ℕ → List ℕ
trace_mark pages size writes length = text_head (codes "head") 90 36
    ++ (sizes_words pages size ++ (writes_words writes length ++ text_end))

-- the panel of windows, but for its bars
abbrev pub windows_panel : List WindowRow → Panel
windows_panel rows = panel_with 90 150 (fold (λ most (row : WindowRow). max row.pages most) 1 rows)

unfoldable pub windows_keys : Panel → List ℕ
windows_keys panel = key_mark panel (codes "again") 480 (codes "also in the window before")
    ++ (key_mark panel (codes "earlier") 680 (codes "earlier")
    ++ key_mark panel (codes "fresh") 770 (codes "never before"))

unfoldable pub windows_frame : Panel → List ℕ
windows_frame panel = frame_text panel (codes "Working set: pages written in a window") ++ windows_keys panel

unfoldable pub windows_marks : Axis → ℕ → List WindowRow → List ℕ
windows_marks axis length rows =
    windows_frame (windows_panel rows) ++ window_bars axis length (windows_panel rows) rows

-- where the rounds lie, and the stop, on the windows
unfoldable pub place_marks : Axis → Axis → Panel → MigrationPlan → List ℕ
place_marks axis rounds panel plan =
    span_mark (codes "span") panel (place_on axis rounds.first)
    (max (place_on axis rounds.last) (place_on axis rounds.first + 2))
    ++ span_mark (codes "stop") panel (place_on axis plan.stop) (place_on axis plan.stop + 2)

-- the panels of the rounds: their pages, and their rates
abbrev pub round_most : ℕ → PlannedRound → ℕ
round_most most round = max (max (length round.pages) round.dirtied) most

abbrev pub pages_panel : List PlannedRound → Panel
pages_panel rounds = panel_with 360 120 (fold round_most 1 rounds)

abbrev pub rates_panel : List PlannedRound → Panel
rates_panel rounds = panel_with 540 70 (fold (λ most (round : PlannedRound). max round.rate most) 1 rounds)

-- where a round is, and its marks: pages sent and skipped, pages dirtied, and the rate
abbrev pub round_place : Axis → PlannedRound → ℕ × ℕ
round_place axis round = parted_of (place_on axis round.from) (place_on axis round.to)

unfoldable pub dirtied_mark : Panel → ℕ × ℕ → ℕ → List ℕ
dirtied_mark panel place dirtied =
    rect_text (codes "dirtied") (area_of place.0 (level_of panel dirtied - 1) (max (place.1 - place.0) 2) 2)

unfoldable pub sent_marks : Panel → ℕ × ℕ → PlannedRound → List ℕ
sent_marks panel place round = bar_mark (codes "sent") panel place 0 (length round.sent)
    ++ bar_mark (codes "skipped") panel place (bar_height panel (length round.sent))
    (length round.pages - length round.sent)

abbrev pub round_marks : Axis → Panel → Panel → PlannedRound → List ℕ
round_marks axis pages rates round = sent_marks pages (round_place axis round) round
    ++ (dirtied_mark pages (round_place axis round) round.dirtied
    ++ bar_mark (codes "rate") rates (round_place axis round) 0 round.rate)

unfoldable pub downtime_marks : Axis → Panel → MigrationPlan → List ℕ
downtime_marks axis panel plan =
    span_mark (codes "down") panel (place_on axis plan.stop) (place_on axis (end_of plan))
    ++ span_mark (codes "stop") panel (place_on axis plan.stop) (place_on axis plan.stop + 2)

unfoldable pub bar_keys : Panel → List ℕ
bar_keys panel = key_mark panel (codes "sent") 330 (codes "sent") ++ (key_mark panel (codes "skipped") 410
    (codes "skipped") ++ key_mark panel (codes "dirtied") 510 (codes "dirtied meanwhile"))

unfoldable pub stop_keys : Panel → List ℕ
stop_keys panel =
    key_mark panel (codes "stop") 670 (codes "stop") ++ key_mark panel (codes "down") 770 (codes "downtime")

unfoldable pub rounds_frame : Panel → Panel → List ℕ
rounds_frame pages rates = frame_text pages (codes "Rounds: pages") ++ (bar_keys pages ++ (stop_keys pages
    ++ frame_text rates (codes "Rounds: rate, in pages per 1,000 ticks")))

abbrev pub rounds_bars : Axis → Panel → Panel → List PlannedRound → List ℕ
rounds_bars axis pages rates rounds = flat_map (round_marks axis pages rates) rounds

unfoldable pub rounds_marks : Axis → Panel → Panel → MigrationPlan → List ℕ
rounds_marks axis pages rates plan = rounds_frame pages rates ++ (rounds_bars axis pages rates plan.rounds
    ++ (downtime_marks axis pages plan ++ downtime_marks axis rates plan))

-- the lines on the stop, in ticks and pages, and in times and bytes
unfoldable pub stop_reason : MigrationPlan → List ℕ
stop_reason plan = codes "Stop (" ++ (word_of plan.reason ++ field (codes ") at tick ") plan.stop)

unfoldable pub stop_numbers : MigrationPlan → List ℕ
stop_numbers plan = field (codes "; downtime ") plan.down ++ (field (codes " ticks for ") (length plan.last)
    ++ (field (codes " pages; ") (total_of plan) ++ codes " pages sent in all"))

unfoldable pub stop_mark : MigrationPlan → List ℕ
stop_mark plan = text_head (codes "foot") 90 684 ++ (stop_reason plan ++ (stop_numbers plan ++ text_end))

unfoldable pub stop_times : TraceScale → MigrationPlan → List ℕ
stop_times scale plan =
    named_moment (codes "Stop at ") scale plan.stop ++ named_time (codes "; downtime ") scale plan.down

unfoldable pub stop_sizes : TraceScale → MigrationPlan → List ℕ
stop_sizes scale plan = named_size (codes " for ") scale (length plan.last)
    ++ (named_size (codes "; ") scale (total_of plan) ++ codes " sent in all")

unfoldable pub units_of : TraceScale → MigrationPlan → List ℕ
units_of scale plan =
    text_head (codes "foot") 90 706 ++ (stop_times scale plan ++ (stop_sizes scale plan ++ text_end))

abbrev pub units_mark : Option TraceScale → MigrationPlan → List ℕ
units_mark None plan = []
units_mark (Some scale) plan = units_of scale plan

-- This is a whole picture of a report. Of its head, which has its size and its colors, nothing is said.
pub record IsReportChart (pages size writes : ℕ) (settings : MigrationSettings) (scale : Option TraceScale)
    (sets : WorkingSets) (plan : MigrationPlan) (text : List ℕ) : Type 0 where
  pub head : List ℕ
  pub upper : List ℕ
  pub are_upper : AreLabels (axis_over (rounds_axis settings plan) settings.window sets.windows) scale 240 upper
  pub lower : List ℕ
  pub are_lower : AreLabels (rounds_axis settings plan) scale 610 lower
  pub text_is : text ≡ head ++ (trace_mark pages size writes settings.window
      ++ (windows_marks (axis_over (rounds_axis settings plan) settings.window sets.windows) settings.window
      sets.windows
      ++ (place_marks (axis_over (rounds_axis settings plan) settings.window sets.windows) (rounds_axis settings plan)
      (windows_panel sets.windows) plan ++ (upper ++ (rounds_marks (rounds_axis settings plan)
      (pages_panel plan.rounds) (rates_panel plan.rounds) plan ++ (lower ++ (stop_mark plan
      ++ (units_mark scale plan ++ codes "</svg>\n"))))))))
