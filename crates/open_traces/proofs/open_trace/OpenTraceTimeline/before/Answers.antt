use Rattle.std.proofs.Common.{◌≡◌, ◌∙◌, ap, arith, length}
use Rattle.std.proofs.lemmas.List.{length-map}
use Rattle.migration_model.specs.Touches.{AreTouches, GuestTouch, touch_of, touches_of}
use Rattle.migration_model.proofs.Touches.{AreTouches-from_trace}
use Rattle.trace_readers.proofs.Texts.{earlier_to, later_from}
use Rattle.open_traces.proofs.Opened.{at_trace}
use Rattle.open_traces.proofs.RecordPlaces.{length-begins}
use Rattle.open_traces.proofs.open_trace.OpenTraceTimeline.before.Goals as goal

pub loop-low-init : goal.loop-low-init
loop-low-init c =
    let writes = c.args.self.now.writes in
    let is = at_trace c.args.self.now _ _ _ _ _ _ c.self.view_is c.self.invariant in
    let all : length c.self.inside.begins.now ≡ length (touches_of c.args.self.now) =
    omega (arith, ap length is.begins_are, length-begins writes, length-map writes touch_of) in
    record {
      order = omega arith;
      bound = omega (arith, all);
      earlier = λ k d low. absurd (omega arith);
      later = λ k d high low. absurd (omega (arith, all));
    }

pub loop-low-preserved-then-touch-tick : goal.loop-low-preserved-then-touch-tick
loop-low-preserved-then-touch-tick c =
    let before = c.loop-low.invariant in
    let touches = touches_of c.args.self.now in
    let is = at_trace c.args.self.now _ _ _ _ _ _ c.self.view_is c.self.invariant in
    let fits : AreTouches c.args.self.now.pages touches = AreTouches-from_trace c.args.self.now is.spells.is_trace in
    let here = ap (λ (t : GuestTouch). t.tick) (c.touch-in-loop-low.view_is ∙ c.touch.ensures) in
    record {
      order = omega (arith, c.loop-low-test.true);
      bound = before.bound;
      earlier = earlier_to touches c.args.tick _ _ fits.in_order (omega (arith, c.loop-low-test.true, before.bound))
          here c.if-touch-tick.true;
      later = before.later;
    }

pub loop-low-preserved : goal.loop-low-preserved
loop-low-preserved c =
    let before = c.loop-low.invariant in
    let touches = touches_of c.args.self.now in
    let is = at_trace c.args.self.now _ _ _ _ _ _ c.self.view_is c.self.invariant in
    let fits : AreTouches c.args.self.now.pages touches = AreTouches-from_trace c.args.self.now is.spells.is_trace in
    let here = ap (λ (t : GuestTouch). t.tick) (c.touch-in-loop-low.view_is ∙ c.touch.ensures) in
    record {
      order = omega arith;
      bound = omega (arith, c.loop-low-test.true, before.bound);
      earlier = before.earlier;
      later = later_from touches c.args.tick _ _ fits.in_order (omega (arith, c.loop-low-test.true, before.bound)) here
          c.if-touch-tick.false;
    }
