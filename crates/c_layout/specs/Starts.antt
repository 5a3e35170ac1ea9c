-- The best start of a migration, in the numbers that C has.
use Rattle.std.specs.Prelude.{ℕ, if◌then◌else◌, Option, None, Some}
use Rattle.predictions.specs.Predictions.{kept_of}
use Rattle.predictions.specs.Questions.{capped, verdict_number}
use Rattle.predictions.specs.Redrawn.Errors.{SampleErrors}
use Rattle.predictions.specs.Starts.Choices.{is_likely}
use Rattle.predictions.specs.Starts.Costs.{CostAtStart}
use Rattle.c_layout.specs.declared.starts.BestStartNumbers.{BestStartNumbers}

-- the numbers of the migration from a start, and whether it is likely to keep this limit
abbrev pub numbers_from : ℕ → CostAtStart → BestStartNumbers
numbers_from limit at = record {
  start = at.start;
  rounds = at.cost.steps;
  time = capped at.cost.time;
  bytes = capped at.cost.bytes;
  downtime = capped at.cost.downtime;
  kept = verdict_number (kept_of at.cost);
  is_likely = if is_likely limit at then 1 else 0;
}

-- those from the best start; if no migration ends within the trace, nothing is known
abbrev pub best_numbers : ℕ → Option CostAtStart → BestStartNumbers
best_numbers limit None =
    record { start = 0; rounds = 0; time = 0; bytes = 0; downtime = 0; kept = 2; is_likely = 0 }
best_numbers limit (Some at) = numbers_from limit at

-- the standard errors from the best start, if there is one and they are counted
abbrev pub best_errors : Option CostAtStart → Option SampleErrors
best_errors None = None
best_errors (Some at) = at.errors
