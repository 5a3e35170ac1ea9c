-- A report for a terminal, in times and bytes of the guest. This project's own.
use Rattle.std.specs.Prelude.{◌≡◌, ℕ, ◌+◌, ◌-◌, ◌*◌, ◌/◌, ◌^◌, nat_le, nat_lt, max, min, if◌then◌else◌, List, [], ◌∷◌}
use Rattle.std.specs.Prelude.{◌++◌, length, codes}
use Rattle.std.specs.Fmt.{decimal}
use Rattle.std.specs.List.{flat_map, enumerate_from}
use Rattle.predictions.specs.Units.Scales.{TraceScale, bytes_of, micros_of}
use Rattle.migration_model.specs.Rates.{MigrationSettings, word_of}
use Rattle.migration_model.specs.Rounds.{MigrationPlan, PlannedRound, total_of}
use Rattle.migration_model.specs.Windows.{WindowRow, WorkingSets}
use Rattle.predictions.specs.Starts.Texts.{cell_in, right_in}
use Rattle.predictions.specs.Quantities.{bytes_text, moment_text, time_text}
use Rattle.sweep_report.specs.Lines.{field}
use Rattle.report_pictures.specs.Bars.{bar_text, window_key, window_parts}
use Rattle.report_pictures.specs.Columns.{most_of}
use Rattle.report_pictures.specs.HotStrips.{spots_text}
use Rattle.report_pictures.specs.Screens.{hot_text, trace_words}
use Rattle.view_kinds.specs.declared.style.Style.{Style}

-- some ticks as how long something takes, a tick as when something is, and some pages as a size
abbrev pub time_words : TraceScale → ℕ → List ℕ
time_words scale ticks = time_text (micros_of scale ticks)

abbrev pub moment_words : TraceScale → ℕ → List ℕ
moment_words scale tick = moment_text (micros_of scale tick)

abbrev pub size_words : TraceScale → ℕ → List ℕ
size_words scale pages = bytes_text (bytes_of scale pages)

-- with words before it
unfoldable pub named_time : List ℕ → TraceScale → ℕ → List ℕ
named_time name scale ticks = name ++ time_words scale ticks

unfoldable pub named_moment : List ℕ → TraceScale → ℕ → List ℕ
named_moment name scale tick = name ++ moment_words scale tick

unfoldable pub named_size : List ℕ → TraceScale → ℕ → List ℕ
named_size name scale pages = name ++ size_words scale pages

-- what ticks and pages stand for
abbrev pub sample_words : TraceScale → List ℕ
sample_words scale = if nat_lt scale.sampled scale.guest
    then field (codes "; the trace has ") scale.sampled
    ++ (field (codes " of the guest's ") scale.guest ++ codes " pages")
    else []

unfoldable pub scale_words : TraceScale → List ℕ
scale_words scale = field (codes "a tick is ") scale.tick ++ (codes " us" ++ (sample_words scale ++ codes "\n\n"))

-- the first tick of a window, or the greatest tick that there is
abbrev pub first_tick : ℕ → WindowRow → ℕ
first_tick ticks row = min (row.number * ticks) (2 ^ 64 - 1)

-- a window: its number, when it begins, what is written in it, and its bar
abbrev pub window_line : Style → TraceScale → ℕ → ℕ → WindowRow → List ℕ
window_line style scale ticks most row = cell_in 11 (decimal row.number)
    ++ (cell_in 11 (moment_words scale (first_tick ticks row)) ++ (cell_in 11 (size_words scale row.pages)
    ++ (codes "  " ++ (bar_text style.colors most (style.width - 38) (window_parts row) ++ 10 ∷ []))))

abbrev pub window_lines : Style → TraceScale → ℕ → List WindowRow → List ℕ
window_lines style scale ticks rows =
    flat_map (window_line style scale ticks (most_of (λ (row : WindowRow). row.pages) rows)) rows

unfoldable pub windows_head : Style → TraceScale → ℕ → List ℕ
windows_head style scale ticks = named_time (codes "windows of ") scale ticks ++ (codes "; written:"
    ++ (window_key style.colors ++ codes "      window        from     written\n"))

unfoldable pub windows_text : Style → TraceScale → ℕ → List WindowRow → List ℕ
windows_text style scale ticks rows =
    windows_head style scale ticks ++ (window_lines style scale ticks rows ++ 10 ∷ [])

-- how wide the moments of rounds are, and their sizes
abbrev pub moments_width : TraceScale → PlannedRound → ℕ
moments_width scale round = max (length (moment_words scale round.to)) (length (moment_words scale round.from))

abbrev pub moment_width : TraceScale → MigrationPlan → ℕ
moment_width scale plan = most_of (moments_width scale) plan.rounds

abbrev pub sizes_width : TraceScale → PlannedRound → ℕ
sizes_width scale round =
    max (length (size_words scale round.dirtied)) (length (size_words scale (length round.sent)))

abbrev pub size_width : TraceScale → MigrationPlan → ℕ
size_width scale plan = most_of (sizes_width scale) plan.rounds

-- a round: when it begins and ends, what it sends, and what is dirtied meanwhile
unfoldable pub round_words : TraceScale → ℕ → ℕ → ℕ → PlannedRound → List ℕ
round_words scale time size number round = codes "round " ++ (right_in 2 (decimal number) ++ (codes "   "
    ++ (right_in time (moment_words scale round.from) ++ (codes " to " ++ (right_in time (moment_words scale round.to)
    ++ (codes "   " ++ (right_in size (size_words scale (length round.sent)) ++ (codes " sent   "
    ++ (right_in size (size_words scale round.dirtied) ++ codes " dirtied")))))))))

-- the share of the link that it takes, if the line has room for it
abbrev pub share_words : Style → MigrationSettings → ℕ → ℕ → List ℕ
share_words style settings taken rate = if nat_le (taken + 16) style.width
    then codes "   " ++ (decimal (rate * 100 / max settings.max 1) ++ codes "% of link")
    else []

abbrev pub round_line : Style → TraceScale → MigrationSettings → ℕ → ℕ → ℕ → PlannedRound → List ℕ
round_line style scale settings time size number round = round_words scale time size number round
    ++ (share_words style settings (length (round_words scale time size number round)) round.rate ++ 10 ∷ [])

unfoldable pub round_lines : Style → TraceScale → MigrationSettings → MigrationPlan → List ℕ
round_lines style scale settings plan = flat_map (λ at. round_line style scale settings (moment_width scale plan)
    (size_width scale plan) at.0 at.1) (enumerate_from 0 plan.rounds)

-- the end of a plan: why and when the guest stops, and then what is left, how long that takes, and all that is sent
unfoldable pub reason_words : TraceScale → MigrationPlan → List ℕ
reason_words scale plan = codes "stop: " ++ (word_of plan.reason ++ named_moment (codes ", at ") scale plan.stop)

unfoldable pub left_words : TraceScale → MigrationPlan → List ℕ
left_words scale plan = named_size (codes "\nleft: ") scale (length plan.last)
    ++ (named_time (codes "\ndowntime: ") scale plan.down
    ++ (named_size (codes "\nsent in all: ") scale (total_of plan) ++ 10 ∷ []))

unfoldable pub stop_words : TraceScale → MigrationPlan → List ℕ
stop_words scale plan = reason_words scale plan ++ left_words scale plan

-- This is a whole report. Of the runs of the hot pages nothing is said: they are only tested.
pub record IsMeasuredScreen (style : Style) (scale : TraceScale) (pages size writes : ℕ) (settings : MigrationSettings)
    (sets : WorkingSets) (plan : MigrationPlan) (text : List ℕ) : Type 0 where
  pub lines : List ℕ
  pub text_is : text ≡ trace_words pages size writes ++ (scale_words scale
      ++ (windows_text style scale settings.window sets.windows
      ++ (hot_text settings.hot (length sets.hot) (spots_text style.width pages sets.hot lines)
      ++ (round_lines style scale settings plan ++ (10 ∷ [] ++ stop_words scale plan)))))
