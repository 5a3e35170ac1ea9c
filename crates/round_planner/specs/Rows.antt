-- The numbers of the rounds of a plan, in a caller's buffer.
use Rattle.std.specs.Prelude.{◌≡◌, ℕ, List, ◌++◌, length, drop, map}
use Rattle.migration_model.specs.Rates.{MigrationSettings}
use Rattle.migration_model.specs.Rounds.{IsPlan, MigrationPlan, PlannedRound}
use Rattle.migration_model.specs.Sweeps.{PlanOutcome, outcome_of}
use Rattle.migration_model.specs.Touches.{GuestTouch}
use Rattle.round_planner.specs.declared.parts.RoundRow.{RoundRow}

-- the numbers of a round
abbrev pub row_of : PlannedRound → RoundRow
row_of round = record {
  from = round.from;
  to = round.to;
  rate = round.rate;
  pages = length round.pages;
  sent = length round.sent;
  dirtied = round.dirtied;
}

-- a buffer with a row for each of these rounds over its front, and after them what was there
abbrev pub rows_over : List PlannedRound → List RoundRow → List RoundRow
rows_over rounds old = map row_of rounds ++ drop (length rounds) old

-- the plan of a guest of `pages` pages with these touches has this result, and its rounds fill the front of a buffer
pub record IsPlanned (pages : ℕ) (touches : List GuestTouch)
    (s : MigrationSettings) (outcome : PlanOutcome) (old new : List RoundRow) : Type 0 where
  pub plan : MigrationPlan
  pub is_plan : IsPlan pages touches s plan
  pub outcome_is : outcome ≡ outcome_of plan
  pub rows_are : new ≡ rows_over plan.rounds old
