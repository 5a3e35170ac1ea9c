-- A plan on its way: the rounds so far, and the one that may come. No contract of a public call cites it.
use Rattle.std.specs.Prelude.{◌≡◌, ◌≤◌, ◌*◌, ℕ, List, ◌++◌, length}
use Rattle.std.specs.List.{sum_by}
use Rattle.migration_model.specs.Rates.{MigrationSettings}
use Rattle.migration_model.specs.Rounds.{AreRounds, MigrationPlan, NextRound, PlannedRound, first_round}
use Rattle.migration_model.specs.Touches.{GuestTouch}
use Rattle.round_planner.specs.Indexing.{StandsAt}
use Rattle.round_planner.specs.declared.numbers.RoundNumbers.{RoundNumbers}

-- the rounds so far with whatever follows
abbrev pub Follows : ℕ → List GuestTouch → MigrationSettings → NextRound → List PlannedRound → Type 0
Follows pages touches s now rounds = (rest : List PlannedRound) (plan : MigrationPlan)
    → AreRounds pages touches s now rest plan
    → AreRounds pages touches s (first_round pages touches s) (rounds ++ rest) plan

abbrev pub all_sent : List PlannedRound → ℕ
all_sent rounds = sum_by (λ (round : PlannedRound). length round.sent) rounds

-- the rounds so far, of which the code keeps only the numbers, and the round that may come
pub record AreDone (pages : ℕ) (touches : List GuestTouch) (s : MigrationSettings) (now : RoundNumbers)
    (coming : NextRound) (rounds : List PlannedRound) : Type 0 where
  pub at : StandsAt pages touches s coming now
  pub follows : Follows pages touches s coming rounds
  pub count : length rounds ≡ now.step.done
  pub total : all_sent rounds ≡ now.total
  pub few : now.total ≤ now.step.done * 65_536
