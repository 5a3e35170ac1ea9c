use Rattle.trace_views.specs.Advice.{IsFound, KeepsDown, is_cheaper}
use Rattle.trace_views.proofs.choosing.cheapest_case.Given as goal

abbrev pub invariant-loop-number : goal.invariant-loop-number
invariant-loop-number l = IsFound is_cheaper (KeepsDown l.log l.measured l.down) l.lines l.number l.found
