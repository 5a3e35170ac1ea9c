use Rattle.std.proofs.Common.{◌≡◌, ◌≤◌, take}
use Rattle.std.specs.List.{count_by}
use Rattle.predictions.proofs.starts.ranges.keeping.Given as goal

abbrev pub invariant-loop-at : goal.invariant-loop-at
invariant-loop-at l = record {
  count : l.count ≡ count_by (λ at. at.cost.is_kept) (take l.at-index l.known);
  low : l.count ≤ l.at-index;
}
