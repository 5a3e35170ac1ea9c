use Rattle.std.proofs.Common.{◌≡◌, ℕ, ◌+◌, ◌-◌, ◌<◌, ◌≤◌, length, slice_index_or}
use Rattle.std.specs.List.{All}
use Rattle.migration_model.specs.Versions.{page_at}
use Rattle.page_versions.specs.Copies.{IsCheckpoint}
use Rattle.page_versions.proofs.checkpoints.checkpoints_of.Given as goal

abbrev pub invariant-loop-count : goal.invariant-loop-count
invariant-loop-count g l = record {
  some : 1 ≤ l.count;
  bytes : l.bytes.items ≡ page_at l.source l.page l.reached.version;
  later : (k : ℕ) → l.count ≤ k + 1 → k < length l.places → l.reached.version ≤ slice_index_or l.places k 0;
  made : All (IsCheckpoint l.source l.page) l.made.items;
}

abbrev pub decreases-loop-count : goal.decreases-loop-count
decreases-loop-count g l = length l.places + 1 - l.count
