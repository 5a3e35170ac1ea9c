-- The text of advice. This project's own.
use Rattle.std.specs.Prelude.{ℕ, ◌^◌, ◌-◌, if◌then◌else◌, Option, None, Some, unwrap_or, List, [], ◌∷◌, ◌++◌, codes}
use Rattle.std.specs.List.{flat_map}
use Rattle.migration_model.specs.Rates.{MigrationSettings}
use Rattle.migration_model.specs.Sweeps.{SweepLine}
use Rattle.predictions.specs.Courses.Ends.{course_of_rounds}
use Rattle.predictions.specs.Predictions.{MigrationCost, cost_of}
use Rattle.predictions.specs.Quantities.{bytes_text, time_text}
use Rattle.predictions.specs.Redrawn.Errors.{SampleErrors}
use Rattle.predictions.specs.Starts.Texts.{down_spread}
use Rattle.sweep_report.specs.Lines.{field, line, case_line}
use Rattle.trace_views.specs.declared.advice.Advice.{Advice}
use Rattle.trace_views.specs.declared.advice.Advice.TheVariants as advices
use Rattle.view_kinds.specs.declared.budget.Budget.{Budget}
use Rattle.trace_views.specs.declared.grid.Grid.{Grid}
use Rattle.view_kinds.specs.declared.view.Measured.{Measured}

-- the number of the advised case, if there is one
abbrev pub case_of : Advice → Option ℕ
case_of (advices.Fits case) = Some case
case_of (advices.OverTotal nearest cheapest) = Some nearest
case_of (advices.OverDown nearest) = Some nearest
case_of advices.Unknown = None

-- the budget: its downtime, and its pages if it limits them
abbrev pub total_field : Option ℕ → List ℕ
total_field None = []
total_field (Some total) = field (codes " total ") total

abbrev pub budget_line : Budget → List ℕ
budget_line budget = line (field (codes "budget down ") budget.down ∷ total_field budget.total ∷ [])

-- some words, and a blank before each of some numbers
abbrev pub number_fields : List ℕ → List ℕ
number_fields numbers = flat_map (field (codes " ")) numbers

abbrev pub numbers_line : List ℕ → List ℕ → List ℕ
numbers_line words numbers = line (words ∷ number_fields numbers ∷ [])

-- a grid: what all cases have, and the values of each axis
unfoldable pub grid_lines : MigrationSettings → Grid → List ℕ
grid_lines s grid = numbers_line (codes "grid start") (s.start ∷ []) ++ (numbers_line (codes "grid max") (s.max ∷ [])
    ++ (numbers_line (codes "grid min") grid.min ++ (numbers_line (codes "grid inc") grid.increment
    ++ (numbers_line (codes "grid threshold") grid.threshold ++ (numbers_line (codes "grid limit") grid.rounds
    ++ numbers_line (codes "grid skip") (0 ∷ 1 ∷ []))))))

-- the words on a downtime that cases keep: if errors are counted, they are likely to keep it
abbrev pub within_words : Option SampleErrors → List ℕ
within_words None = codes " within down "
within_words (Some errors) = codes " likely within down "

-- which case keeps the budget; or else why none does, which is the cheapest of those that keep the downtime, and which
-- has the least downtime; or that none ends within the trace
abbrev pub reason_fields : Budget → Advice → Option SampleErrors → List (List ℕ)
reason_fields budget (advices.Fits case) errors = field (codes " fits ") case ∷ []
reason_fields budget (advices.OverDown nearest) errors =
    codes " none" ∷ field (within_words errors) budget.down ∷ field (codes " nearest ") nearest ∷ []
reason_fields budget (advices.OverTotal nearest cheapest) errors =
    field (codes " none within total ") (unwrap_or budget.total (2 ^ 64 - 1)) ∷ codes " of those"
    ∷ field (within_words errors) budget.down ∷ field (codes " cheapest ") cheapest
    ∷ field (codes " nearest ") nearest ∷ []
reason_fields budget advices.Unknown errors = codes " none ends within the trace" ∷ []

-- how many cases there are, and which of them keeps the budget or why none does
abbrev pub reason_line : Budget → ℕ → Advice → Option SampleErrors → List ℕ
reason_line budget count advice errors = line (field (codes "cases ") count ∷ reason_fields budget advice errors)

-- what precedes the advised case, which has these errors
abbrev pub advice_head : Budget → MigrationSettings → Grid → ℕ → Advice → Option SampleErrors → List ℕ
advice_head budget s grid count advice errors =
    budget_line budget ++ (grid_lines s grid ++ reason_line budget count advice errors)

-- the option for a base, if there is one
abbrev pub base_field : Option ℕ → List ℕ
base_field None = []
base_field (Some base) = field (codes " --base ") base

-- the words that run a live migration with some settings
abbrev pub live_fields : MigrationSettings → List (List ℕ)
live_fields s = field (codes "precopy live --min ") s.min ∷ field (codes " --max ") s.max ∷ field
    (codes " --inc ") s.increment
    ∷ field (codes " --threshold ") s.threshold ∷ field (codes " --rounds ") s.rounds ∷ field
    (codes " --start ") s.start
    ∷ base_field s.base ∷ (if s.skip then codes " --skip" else codes "") ∷ []

abbrev pub live_line : MigrationSettings → List ℕ
live_line s = line (live_fields s)

-- what a migration costs, in time and bytes, with one standard error of the downtime if errors are counted
abbrev pub measures_line : MigrationCost → Option SampleErrors → List ℕ
measures_line cost errors = line (codes "time " ∷ time_text cost.time ∷ codes ", sent " ∷ bytes_text cost.bytes
    ∷ codes ", downtime " ∷ time_text cost.downtime ∷ down_spread errors ∷ [])

abbrev pub cost_line : Option MigrationCost → Option SampleErrors → List ℕ
cost_line None errors = []
cost_line (Some cost) errors = measures_line cost errors

-- an advised case: what it costs in time and bytes if that is known, its line, and the words that run a live migration
-- with its settings
abbrev pub choice_text : ℕ → SweepLine → Option MigrationCost → Option SampleErrors → List ℕ
choice_text case chosen cost errors =
    cost_line cost errors ++ (case_line case chosen ++ live_line chosen.settings)

-- what a case costs if it is known what ticks and pages stand for, over touches whose last has this tick
abbrev pub known_cost : Option Measured → SweepLine → ℕ → Option MigrationCost
known_cost None chosen last = None
known_cost (Some known) chosen last =
    Some (cost_of known.scale known.limits chosen.settings.start (course_of_rounds chosen.outcome) last)
