-- Sums of plans.
use Rattle.migration_model.specs.Sweeps.{PlanOutcome}
use Rattle.predictions.specs.Questions.{reason_number}
use Rattle.c_layout.specs.declared.sums.PlanSums.{PlanSums}

-- the sums of a plan as a caller sees them
abbrev pub sums_of : PlanOutcome → PlanSums
sums_of outcome = record {
  rounds = outcome.rounds;
  reason = reason_number outcome.reason;
  stop = outcome.stop;
  down = outcome.down;
  total = outcome.total;
}
