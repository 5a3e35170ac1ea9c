use Rattle.trace_readers.proofs.Texts.{touch_read}
use Rattle.open_traces.proofs.open_trace.OpenTraceTimeline.touch.Goals as goal

pub returns : goal.returns
returns c = touch_read c.args.self.now c.args.index _ c.write-write.ensures c.requires
