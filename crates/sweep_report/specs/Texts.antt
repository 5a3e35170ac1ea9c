-- Whole texts, line by line. This project's own.
use Rattle.std.specs.Prelude.{ℕ, ◌^◌, List, [], ◌∷◌, ◌++◌, length}
use Rattle.std.specs.List.{flat_map, enumerate_from}
use Rattle.migration_model.specs.Rounds.{PlannedRound, MigrationPlan}
use Rattle.migration_model.specs.Sweeps.{SweepLine, best_of}
use Rattle.migration_model.specs.Windows.{WorkingSets}
use Rattle.sweep_report.specs.Lines.{trace_line, window_line, hot_line, page_line, round_line, stop_line, case_line}
use Rattle.sweep_report.specs.Lines.{best_line}

-- the report over working sets: what the trace is, each window with a write, and the pages that are in at least `hot`
-- windows
abbrev pub sets_text : ℕ → WorkingSets → List ℕ
sets_text hot sets = flat_map window_line sets.windows
    ++ (hot_line hot (length sets.hot) ++ flat_map page_line sets.hot)

-- the lines of some rounds, numbered from the first
abbrev pub round_lines : List PlannedRound → List ℕ
round_lines rounds = flat_map (λ at. round_line at.0 at.1) (enumerate_from 0 rounds)

-- a plan: each of its rounds, and its end
abbrev pub plan_text : MigrationPlan → List ℕ
plan_text plan = round_lines plan.rounds ++ stop_line plan

abbrev pub report_of : ℕ → ℕ → ℕ → ℕ → WorkingSets → MigrationPlan → List ℕ
report_of shift pages writes hot sets plan = trace_line pages (2 ^ shift) writes
    ++ (sets_text hot sets ++ plan_text plan)

-- a line for each case of a sweep, numbered from the first
abbrev pub case_lines : List SweepLine → List ℕ
case_lines lines = flat_map (λ at. case_line at.0 at.1) (enumerate_from 0 lines)

-- a sweep: its cases, and the best of them; of no cases it is empty
abbrev pub sweep_of : List SweepLine → List ℕ
sweep_of [] = []
sweep_of (first ∷ others) = case_lines (first ∷ others) ++ best_line (best_of (first ∷ others))
