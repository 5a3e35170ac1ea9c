use Rattle.std.proofs.Common.{◌≡◌, ◌∙◌, map, ap, take}
use Rattle.migration_model.specs.Touches.{touches_of}
use Rattle.migration_model.proofs.Touches.{AreTouches-from_trace}
use Rattle.browser_planner.specs.Touches.{touch_in}
use Rattle.browser_planner.proofs.touches.LentLog.of.Goals as goal

pub invariant_of-result : goal.invariant_of-result
invariant_of-result c =
    let shape = c.shape-shape.ensures in
    let fits = AreTouches-from_trace c.args.trace.now shape.is_trace in
    let same : map touch_in c.split_at.result.0.now ≡ touches_of c.args.trace.now =
    ap (map touch_in) (c.split_at.ensures.front ∙ ap (λ n. take n c.args.room.now) shape.writes) ∙ c.requires.touches in
    record {
      some = c.shape-shape.result.pages_low;
      few = c.shape-shape.result.pages_high;
      fits =
          rw (shape.pages, same) fits;
    }
