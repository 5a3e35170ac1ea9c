use Rattle.std.proofs.lemmas.List.Elements.{All-push}
use Rattle.sweep_report.specs.Sweeping.{IsNumbered}
use Rattle.sweep_report.proofs.sweeping.plan_cases.Goals as goal

pub loop-place-preserved : goal.loop-place-preserved
loop-place-preserved g c =
    let pages = g.T.Timeline.pages c.args.timeline.now in
    let touches = g.T.Timeline.touches c.args.timeline.now in
    record {
      planner = c.line_at.ensures.planner;
      made = rw c.in_ok-push.ensures.items (All-push (IsNumbered pages touches c.args.cases.now) c.loop-place.made.items
          c.line_at.result c.loop-place.invariant.made c.line_at.ensures.line);
    }
