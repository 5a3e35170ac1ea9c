use Rattle.migration_model.specs.Sweeps.{is_better}
use Rattle.trace_views.specs.Advice.{EndsWithin, IsFound}
use Rattle.trace_views.proofs.choosing.nearest_case.Given as goal

abbrev pub invariant-loop-number : goal.invariant-loop-number
invariant-loop-number l = IsFound is_better (EndsWithin l.log) l.lines l.number l.found
