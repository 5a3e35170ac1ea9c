use Rattle.std.proofs.Common.{◌≡◌, ◌≤◌, take}
use Rattle.browser_planner.specs.Starts.{known_count}
use Rattle.browser_planner.proofs.starts.count_known.Given as goal

abbrev pub invariant-loop-start : goal.invariant-loop-start
invariant-loop-start l = record {
  known : l.known ≡ known_count (take l.start-index l.starts);
  few : l.known ≤ l.start-index;
}
