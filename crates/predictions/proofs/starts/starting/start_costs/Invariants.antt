use Rattle.std.proofs.Common.{◌≡◌, take}
use Rattle.predictions.specs.Starts.Costs.{costs_at_starts}
use Rattle.predictions.proofs.starts.starting.start_costs.Given as goal

abbrev pub invariant-loop-case : goal.invariant-loop-case
invariant-loop-case l = l.costs.items ≡ costs_at_starts l.measure.scale l.measure.limits l.last_tick (take l.case-index l.cases)
