-- How large a plan is.
use Rattle.std.specs.Prelude.{ℕ, ◌≤◌, List, length}
use Rattle.std.specs.List.{All}
use Rattle.migration_model.specs.Rounds.{PlannedRound}

-- a plan has at most as many rounds as settings may ask for, and no round or rest has more pages than a guest may have
pub record IsSmallPlan (rounds : List PlannedRound) (last : List ℕ) : Type 0 where
  pub few : length rounds ≤ 64
  pub each : All (λ round. length round.sent ≤ 65_536) rounds
  pub rest : length last ≤ 65_536
