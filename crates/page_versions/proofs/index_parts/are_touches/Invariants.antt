use Rattle.std.proofs.Common.{◌≡◌, take}
use Rattle.page_versions.proofs.index_parts.are_touches.Given as goal

abbrev pub invariant-loop-i : goal.invariant-loop-i
invariant-loop-i g l = take l.i l.touches ≡ take l.i (g.T.Timeline.touches l.timeline)
