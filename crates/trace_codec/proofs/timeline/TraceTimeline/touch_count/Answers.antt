use Rattle.migration_model.proofs.Touches.{AreTouches-from_trace}
use Rattle.trace_codec.proofs.timeline.TraceTimeline.touch_count.Goals as goal

pub returns-clause-fits : goal.returns-clause-fits
returns-clause-fits c = AreTouches-from_trace c.args.self.now (rw c.self.view_is at c.self.invariant)
