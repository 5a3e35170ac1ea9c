use Rattle.std.proofs.Common.{◌≤◌, length}
use Rattle.open_checks.proofs.WrongBytes.{AreNoneBehind}
use Rattle.open_checks.proofs.differences.last_to.Given as goal

abbrev pub invariant-loop-place : goal.invariant-loop-place
invariant-loop-place l = record {
  early : l.place ≤ l.count;
  within : l.place ≤ length l.trace.writes;
  none : AreNoneBehind l.trace l.count l.byte l.place;
}

abbrev pub decreases-loop-place : goal.decreases-loop-place
decreases-loop-place l = l.place
