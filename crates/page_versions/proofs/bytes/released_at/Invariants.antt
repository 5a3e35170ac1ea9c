use Rattle.std.proofs.Common.{◌≤◌, length}
use Rattle.page_versions.proofs.bytes.released_at.Given as goal

abbrev pub invariant-loop-index : goal.invariant-loop-index
invariant-loop-index g l = l.index ≤ length l.places

abbrev pub decreases-loop-index : goal.decreases-loop-index
decreases-loop-index g l = l.index
