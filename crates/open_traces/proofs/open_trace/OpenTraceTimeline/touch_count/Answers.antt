use Rattle.std.proofs.Common.{ap, length, arith}
use Rattle.std.proofs.lemmas.List.{length-map}
use Rattle.migration_model.specs.Touches.{touch_of}
use Rattle.migration_model.proofs.Touches.{AreTouches-from_trace}
use Rattle.open_traces.proofs.Opened.{at_trace}
use Rattle.open_traces.proofs.RecordPlaces.{length-begins}
use Rattle.open_traces.proofs.open_trace.OpenTraceTimeline.touch_count.Goals as goal

pub returns-clause-count : goal.returns-clause-count
returns-clause-count c =
    let writes = c.args.self.now.writes in
    let is = at_trace c.args.self.now _ _ _ _ _ _ c.self.view_is c.self.invariant in
    omega (arith, ap length is.begins_are, length-begins writes, length-map writes touch_of)

pub returns-clause-fits : goal.returns-clause-fits
returns-clause-fits c =
    let is = at_trace c.args.self.now _ _ _ _ _ _ c.self.view_is c.self.invariant in
    AreTouches-from_trace c.args.self.now is.spells.is_trace
