use Rattle.std.proofs.Common.{◌≡◌, ◌∙◌, ap, arith, length}
use Rattle.std.proofs.lemmas.List.{length-map}
use Rattle.migration_model.specs.Touches.{AreTouches, GuestTouch, touch_of, touches_of}
use Rattle.migration_model.proofs.Touches.{AreTouches-from_trace}
use Rattle.trace_readers.proofs.Texts.{count_of, earlier_to, later_from}
use Rattle.trace_readers.proofs.held_trace.HeldTraceTimeline.before.Goals as goal

pub loop-low-init : goal.loop-low-init
loop-low-init c =
    let count = count_of _ _ _ _ _ c.self.inside.bytes.items c.self.view_is in
    let all : c.len-high.result ≡ length (touches_of c.args.self.now) =
    omega (
      arith,
      count,
      c.self.invariant.are_positions.count_is,
      length-map c.args.self.now.writes touch_of,
      c.len-high.ensures,
    ) in
    record {
      order = omega arith;
      bound = omega (arith, all);
      earlier = λ k d low. absurd (omega arith);
      later =
          λ k d high low. absurd (omega (arith, all));
    }

pub loop-low-preserved-then-touch-tick : goal.loop-low-preserved-then-touch-tick
loop-low-preserved-then-touch-tick c =
    let before = c.loop-low.invariant in
    let touches = touches_of c.args.self.now in
    let fits : AreTouches c.args.self.now.pages touches = AreTouches-from_trace c.args.self.now
    (rw c.self.view_is at c.self.invariant.is_view.is_trace) in
    let here = ap (λ (t : GuestTouch). t.tick) (c.touch-in-loop-low.view_is ∙ c.touch.ensures) in
    record {
      order = omega (arith, c.loop-low-test.true);
      bound = before.bound;
      earlier = earlier_to touches c.args.tick _ _ fits.in_order (omega (arith, c.loop-low-test.true, before.bound))
          here c.if-touch-tick.true;
      later = before.later;
    }

pub loop-low-preserved : goal.loop-low-preserved
loop-low-preserved c =
    let before = c.loop-low.invariant in
    let touches = touches_of c.args.self.now in
    let fits : AreTouches c.args.self.now.pages touches = AreTouches-from_trace c.args.self.now
    (rw c.self.view_is at c.self.invariant.is_view.is_trace) in
    let here = ap (λ (t : GuestTouch). t.tick) (c.touch-in-loop-low.view_is ∙ c.touch.ensures) in
    record {
      order = omega arith;
      bound = omega (arith, c.loop-low-test.true, before.bound);
      earlier = before.earlier;
      later = later_from touches c.args.tick _ _ fits.in_order (omega (arith, c.loop-low-test.true, before.bound)) here
          c.if-touch-tick.false;
    }
