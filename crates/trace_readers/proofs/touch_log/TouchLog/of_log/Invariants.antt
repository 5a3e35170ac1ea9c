use Rattle.std.proofs.Common.{◌≡◌, take}
use Rattle.trace_readers.proofs.touch_log.TouchLog.of_log.Given as goal

abbrev pub invariant-loop-index : goal.invariant-loop-index
invariant-loop-index g l = l.touches.items ≡ take l.index (g.W.Timeline.touches l.fn.log)
