-- Sweeps: the results of the plans of some settings, and the best of them. Clark and others (2005) weigh the downtime
-- and the pages sent against one another; that the downtime counts first is this project's own.
use Rattle.std.specs.Prelude.{◌≡◌, ℕ, ◌&&◌, ◌||◌, ◌==◌, nat_lt, not, Bool, List, length}
use Rattle.std.specs.List.{AllZip, list_any, position_or_len}
use Rattle.migration_model.specs.Touches.{GuestTouch}
use Rattle.migration_model.specs.Rates.{MigrationSettings, StopReason}
use Rattle.migration_model.specs.Rounds.{MigrationPlan, IsPlan, total_of}

-- the result of a plan: how many rounds it has, why and when they end, the downtime, and how many pages are sent in all
pub record PlanOutcome : Type 0 where
  pub rounds : ℕ
  pub reason : StopReason
  pub stop : ℕ
  pub down : ℕ
  pub total : ℕ

abbrev pub outcome_with : ℕ → StopReason → ℕ → ℕ → ℕ → PlanOutcome
outcome_with rounds reason stop down total =
    record { rounds = rounds; reason = reason; stop = stop; down = down; total = total }

abbrev pub outcome_of : MigrationPlan → PlanOutcome
outcome_of plan = outcome_with (length plan.rounds) plan.reason plan.stop plan.down (total_of plan)

-- this is the result of the plan of a guest of `pages` pages with these touches
pub record IsOutcome (pages : ℕ) (touches : List GuestTouch)
    (s : MigrationSettings) (outcome : PlanOutcome) : Type 0 where
  pub plan : MigrationPlan
  pub is_plan : IsPlan pages touches s plan
  pub outcome_is : outcome ≡ outcome_of plan

-- a line of a sweep: settings, and the result of their plan
pub record SweepLine : Type 0 where
  pub settings : MigrationSettings
  pub outcome : PlanOutcome

abbrev pub line_with : MigrationSettings → PlanOutcome → SweepLine
line_with settings outcome = record { settings = settings; outcome = outcome }

-- the line of some settings
pub record IsLineOf (pages : ℕ) (touches : List GuestTouch) (s : MigrationSettings) (line : SweepLine) : Type 0 where
  pub settings_are : line.settings ≡ s
  pub is_outcome : IsOutcome pages touches s line.outcome

-- a line for each of the settings, in order, each planned by itself
abbrev pub AreLines : ℕ → List GuestTouch → List MigrationSettings → List SweepLine → Type 0
AreLines pages touches cases lines = AllZip (IsLineOf pages touches) cases lines

-- whether a line has less downtime than another, or equal downtime and fewer pages sent
abbrev pub is_better : SweepLine → SweepLine → Bool
is_better a b = nat_lt a.outcome.down b.outcome.down
    || ((a.outcome.down == b.outcome.down) && nat_lt a.outcome.total b.outcome.total)

-- the index of the best line, from 0: the first than which none is better
abbrev pub best_of : List SweepLine → ℕ
best_of lines = position_or_len (λ line. not (list_any (λ other. is_better other line) lines)) lines
