use Rattle.std.proofs.Common.{◌≡◌, ◌*◌, ◌≤◌}
use Rattle.predictions.specs.Agreements.{AreCountsOf}
use Rattle.predictions.specs.Redrawn.Draws.{state_after}
use Rattle.predictions.proofs.agreement.drawing.draw_counts.Given as goal

abbrev pub invariant-loop-plan : goal.invariant-loop-plan
invariant-loop-plan g l = record {
  state : l.state ≡ state_after (l._plan * l.measure.scale.sampled);
  whole : l.counts.whole ≤ l._plan;
  known : l.counts.known ≤ l._plan;
  converging : l.counts.converging ≤ l._plan;
  kept : l.counts.kept ≤ l._plan;
  counts : AreCountsOf l.measure.manner (g.T.Timeline.pages l.timeline) (g.T.Timeline.touches l.timeline) l.settings
      l.measure.scale l.measure.limits l._plan l.counts;
}
