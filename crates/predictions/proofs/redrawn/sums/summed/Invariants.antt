use Rattle.std.proofs.Common.{◌≡◌, ◌*◌}
use Rattle.predictions.specs.Redrawn.Draws.{state_after}
use Rattle.predictions.specs.Redrawn.Sums.{AreLow, AreSumsOf}
use Rattle.predictions.proofs.redrawn.sums.summed.Given as goal

abbrev pub invariant-loop-plan : goal.invariant-loop-plan
invariant-loop-plan g l = record {
  state : l.state ≡ state_after (l._plan * l.scale.sampled);
  count : l.sums.count ≡ l._plan;
  low : AreLow l.sums;
  sums : AreSumsOf l.manner (g.T.Timeline.pages l.timeline) (g.T.Timeline.touches l.timeline) l.settings l.scale l._plan
      l.sums;
}
