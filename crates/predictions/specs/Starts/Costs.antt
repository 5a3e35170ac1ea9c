-- What migrations cost that begin at several ticks.
use Rattle.std.specs.Prelude.{◌≡◌, ℕ, map, List, Option, None}
use Rattle.predictions.specs.Units.Scales.{TraceScale}
use Rattle.predictions.specs.declared.units.limits.Limits.{Limits}
use Rattle.migration_model.specs.Touches.{GuestTouch, last_tick_of}
use Rattle.predictions.specs.Predictions.{MigrationCost, cost_of}
use Rattle.predictions.specs.Redrawn.Errors.{AreErrors, SampleErrors}
use Rattle.predictions.specs.declared.course.Manner.{Manner}
use Rattle.predictions.specs.declared.starts.planned.PlannedCase.{PlannedCase}

-- a start, what the migration costs that begins there, and the standard errors of that, if they are counted
pub record CostAtStart : Type 0 where
  pub start : ℕ
  pub cost : MigrationCost
  pub errors : Option SampleErrors

-- what the migration of a case costs by its plan alone, over touches of which the last has this tick
abbrev pub cost_at_start : TraceScale → Limits → ℕ → PlannedCase → CostAtStart
cost_at_start scale limits last_tick case = record {
  start = case.settings.start;
  cost = cost_of scale limits case.settings.start case.course last_tick;
  errors = None;
}

abbrev pub costs_at_starts : TraceScale → Limits → ℕ → List PlannedCase → List CostAtStart
costs_at_starts scale limits last_tick cases = map (cost_at_start scale limits last_tick) cases

-- the same start without errors
abbrev pub plain_of : CostAtStart → CostAtStart
plain_of at = record at { errors = None }

-- what the migration of a case costs, with the standard errors that it has over some touches, by a manner
pub record IsRated (manner : Manner) (pages : ℕ) (touches : List GuestTouch) (scale : TraceScale) (limits : Limits)
    (case : PlannedCase) (at : CostAtStart) : Type 0 where
  pub plain_is : plain_of at ≡ cost_at_start scale limits (last_tick_of touches) case
  pub errors_are : AreErrors manner pages touches case.settings scale at.errors
