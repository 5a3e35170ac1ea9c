use Rattle.std.proofs.Common.{◌≡◌, take}
use Rattle.page_versions.proofs.index_parts.touches_in.Given as goal

abbrev pub invariant-loop-index : goal.invariant-loop-index
invariant-loop-index g l = l.touches.items ≡ take l.index (g.T.Timeline.touches l.timeline)
