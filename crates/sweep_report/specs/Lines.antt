-- The lines of a report and of a sweep: words and numbers in turn, one space between them, and a line feed. This
-- project's own.
use Rattle.std.specs.Prelude.{ℕ, if◌then◌else◌, List, [], ◌∷◌, ◌++◌, length, codes}
use Rattle.std.specs.Fmt.{decimal}
use Rattle.std.specs.List.{flat_map}
use Rattle.migration_model.specs.Rates.{MigrationSettings, word_of}
use Rattle.migration_model.specs.Rounds.{PlannedRound, MigrationPlan, total_of}
use Rattle.migration_model.specs.Sweeps.{PlanOutcome, SweepLine}
use Rattle.migration_model.specs.Windows.{WindowRow}

-- some words and a number after them
unfoldable pub field : List ℕ → ℕ → List ℕ
field words number = words ++ decimal number

-- fields, and the end of a line
abbrev pub line : List (List ℕ) → List ℕ
line fields = flat_map (λ f. f) fields ++ 10 ∷ []

-- what a trace is: its pages, the bytes of one, and its writes
abbrev pub trace_line : ℕ → ℕ → ℕ → List ℕ
trace_line pages size writes = line (field (codes "trace pages ") pages ∷ field (codes " size ") size ∷ field
    (codes " writes ") writes ∷ [])

abbrev pub window_line : WindowRow → List ℕ
window_line row = line (field (codes "window ") row.number ∷ field (codes " writes ") row.writes ∷ field
    (codes " pages ") row.pages
    ∷ field (codes " again ") row.again ∷ field (codes " fresh ") row.fresh ∷ [])

-- how many pages are in `hot` windows
abbrev pub hot_line : ℕ → ℕ → List ℕ
hot_line hot pages = line (field (codes "hot ") hot ∷ field (codes " pages ") pages ∷ [])

abbrev pub page_line : ℕ → List ℕ
page_line page = line (field (codes "page ") page ∷ [])

-- a round of a plan, by its number
abbrev pub round_line : ℕ → PlannedRound → List ℕ
round_line number round = line (field (codes "round ") number ∷ field (codes " from ") round.from ∷ field
    (codes " to ") round.to
    ∷ field (codes " rate ") round.rate ∷ field (codes " pages ") (length round.pages) ∷ field (codes " sent ")
    (length round.sent)
    ∷ field (codes " dirtied ") round.dirtied ∷ [])

-- the end of a plan: why and when it stops, what is left then and how long that takes, and all that is sent
abbrev pub stop_line : MigrationPlan → List ℕ
stop_line plan = line ((codes "stop " ++ word_of plan.reason) ∷ field (codes " at ") plan.stop ∷ field
    (codes " pages ") (length plan.last)
    ∷ field (codes " down ") plan.down ∷ field (codes " total ") (total_of plan) ∷ [])

-- the settings of a case of a sweep, by its number
abbrev pub case_fields : ℕ → MigrationSettings → List (List ℕ)
case_fields number s = field (codes "case ") number ∷ field (codes " min ") s.min ∷ field (codes " max ") s.max ∷ field
    (codes " inc ") s.increment
    ∷ field (codes " threshold ") s.threshold ∷ field (codes " limit ") s.rounds ∷ field (codes " skip ")
    (if s.skip then 1 else 0) ∷ []

-- the sums of a case's plan
abbrev pub outcome_fields : PlanOutcome → List (List ℕ)
outcome_fields outcome = field (codes " rounds ") outcome.rounds ∷ (codes " stop " ++ word_of outcome.reason) ∷ field
    (codes " at ") outcome.stop
    ∷ field (codes " down ") outcome.down ∷ field (codes " total ") outcome.total ∷ []

abbrev pub case_line : ℕ → SweepLine → List ℕ
case_line number at = line (case_fields number at.settings ++ outcome_fields at.outcome)

-- the number of the best case
abbrev pub best_line : ℕ → List ℕ
best_line best = line (field (codes "best ") best ∷ [])
