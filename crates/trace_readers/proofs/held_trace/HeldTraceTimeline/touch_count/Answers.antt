use Rattle.std.proofs.Common.{arith}
use Rattle.std.proofs.lemmas.List.{length-map}
use Rattle.migration_model.specs.Touches.{touch_of}
use Rattle.migration_model.proofs.Touches.{AreTouches-from_trace}
use Rattle.trace_readers.proofs.Texts.{count_of}
use Rattle.trace_readers.proofs.held_trace.HeldTraceTimeline.touch_count.Goals as goal

pub returns-clause-count : goal.returns-clause-count
returns-clause-count c =
    let count = count_of _ _ _ _ _ c.self.inside.bytes.items c.self.view_is in
    omega (
      arith,
      count,
      c.self.invariant.are_positions.count_is,
      length-map c.args.self.now.writes touch_of,
      c.len.ensures,
    )

pub returns-clause-fits : goal.returns-clause-fits
returns-clause-fits c = AreTouches-from_trace c.args.self.now (rw c.self.view_is at c.self.invariant.is_view.is_trace)
