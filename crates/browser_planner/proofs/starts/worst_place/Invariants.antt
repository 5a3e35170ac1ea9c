use Rattle.std.specs.List.{IsFirstBest}
use Rattle.browser_planner.specs.Starts.{is_worse_lent}
use Rattle.browser_planner.proofs.starts.worst_place.Given as goal

abbrev pub invariant-loop-number : goal.invariant-loop-number
invariant-loop-number l = IsFirstBest (is_worse_lent l.limit l.clark) l.starts l.number l.worst
