use Rattle.std.specs.List.{IsFirstBest}
use Rattle.browser_planner.specs.Starts.{is_better_lent}
use Rattle.browser_planner.proofs.starts.best_place.Given as goal

abbrev pub invariant-loop-number : goal.invariant-loop-number
invariant-loop-number l = IsFirstBest (is_better_lent l.limit l.clark) l.starts l.number l.best
