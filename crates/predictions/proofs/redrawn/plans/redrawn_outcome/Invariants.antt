use Rattle.std.proofs.Common.{◌-◌}
use Rattle.predictions.proofs.Ways.{IsUnderWay}
use Rattle.predictions.proofs.redrawn.plans.redrawn_outcome.Given as goal

abbrev pub invariant-loop-next : goal.invariant-loop-next
invariant-loop-next g l = record {
  way : IsUnderWay (g.T.Timeline.pages l.timeline) (g.T.Timeline.touches l.timeline) l.drawn l.settings l.now l.listed
      l.marks;
}

abbrev pub decreases-loop-next : goal.decreases-loop-next
decreases-loop-next g l = 64 - l.now.step.done
