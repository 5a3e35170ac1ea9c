use Rattle.std.proofs.Common.{◌+◌, ◌-◌}
use Rattle.look_planner.specs.Bitmaps.{IsReady}
use Rattle.look_planner.proofs.SummedLists.{IsSummed}
use Rattle.look_planner.proofs.summing.sum_lists.Given as goal

abbrev pub invariant-loop-end : goal.invariant-loop-end
invariant-loop-end g l = record {
  way : IsSummed (g.T.Timeline.pages l.timeline) (g.T.Timeline.touches l.timeline) l.settings l.now l.room l.sums;
  ready : IsReady (g.T.Timeline.pages l.timeline) (g.T.Timeline.touches l.timeline) l.now l.marks;
}

abbrev pub decreases-loop-end : goal.decreases-loop-end
decreases-loop-end g l = (l.settings.end - l.now.from) + (1 - l.now.listed)
