use Rattle.trace_readers.proofs.Texts.{touch_read}
use Rattle.trace_readers.proofs.held_trace.HeldTraceTimeline.touch.Goals as goal

pub returns : goal.returns
returns c = touch_read c.args.self.now c.args.index _ c.write-write.ensures c.requires
