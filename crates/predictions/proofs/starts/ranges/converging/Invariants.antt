use Rattle.std.proofs.Common.{◌≡◌, ◌≤◌, take}
use Rattle.std.specs.List.{count_by}
use Rattle.predictions.specs.Starts.Ranges.{converges_by}
use Rattle.predictions.proofs.starts.ranges.converging.Given as goal

abbrev pub invariant-loop-case : goal.invariant-loop-case
invariant-loop-case l = record {
  count : l.count ≡ count_by (converges_by l.last_tick) (take l.case-index l.cases);
  low : l.count ≤ l.case-index;
}
