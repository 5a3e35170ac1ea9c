-- The state of a plan before a round, and what comes after that round.
use Rattle.std.specs.Prelude.{◌≡◌, ℕ, ◌+◌, ◌-◌}
use Rattle.migration_model.specs.Rates.{MigrationSettings, StopReason, after_round, duration_of, goes_on, stops}
use Rattle.migration_model.specs.Sweeps.{outcome_with}
use Rattle.rate_limit.specs.Pacing.{reason_of}
use Rattle.round_planner.specs.declared.numbers.Following.{Following}
use Rattle.round_planner.specs.declared.numbers.Following.TheVariants.{Round, Stop as Ended}
use Rattle.round_planner.specs.declared.numbers.RoundNumbers.{RoundNumbers}
use Rattle.round_planner.specs.declared.numbers.RoundSums.{RoundSums}
use Rattle.round_planner.specs.declared.step.Step.{Step}
use Rattle.round_planner.specs.declared.step.After.{After}
use Rattle.round_planner.specs.declared.step.After.TheVariants.{Go, Stop}

-- before the first round
abbrev pub first_step : MigrationSettings → Step
first_step s = record { done = 0; from = s.start; rate = s.min }

-- what the stop tests say after the round, which ends at this tick: the next one begins there
abbrev pub IsAfter : MigrationSettings → Step → ℕ → ℕ → After → Type 0
IsAfter s step to dirtied (Go next) = (after_round s dirtied (to - step.from) (step.done + 1) ≡ goes_on next.rate)
    × ((next.done ≡ step.done + 1) × (next.from ≡ to))
IsAfter s step to dirtied (Stop reason) =
    after_round s dirtied (to - step.from) (step.done + 1) ≡ stops (reason_of reason)

-- the numbers of the round that comes after one
abbrev pub numbers_after : RoundNumbers → RoundSums → Step → RoundNumbers
numbers_after now ran step = record { step = step; listed = ran.dirtied; next = ran.next; total = now.total + ran.sent }

-- what the stop tests say after a round that ran so: the numbers of the next one, or the sums of the plan
abbrev pub IsFollowing : MigrationSettings → RoundNumbers → RoundSums → Following → Type 0
IsFollowing s now ran (Round next) = IsAfter s now.step ran.to ran.dirtied (Go next.step)
    × (next ≡ numbers_after now ran next.step)
IsFollowing s now ran (Ended outcome) = (reason : StopReason)
    × ((after_round s ran.dirtied (ran.to - now.step.from) (now.step.done + 1) ≡ stops reason)
    × (outcome ≡ outcome_with (now.step.done + 1) reason ran.to (duration_of ran.dirtied s.max)
    ((now.total + ran.sent) + ran.dirtied)))
