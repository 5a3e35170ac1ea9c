use Rattle.std.proofs.Common.{◌+◌, ◌-◌}
use Rattle.look_planner.specs.Bitmaps.{IsReady}
use Rattle.look_planner.proofs.Ways.{IsOnWay}
use Rattle.look_planner.proofs.planning.plan_lists.Given as goal

abbrev pub invariant-loop-rows : goal.invariant-loop-rows
invariant-loop-rows g l = record {
  way : IsOnWay (g.T.Timeline.pages l.timeline) (g.T.Timeline.touches l.timeline) l.settings l.now l.room l.rows.items
      l.total;
  ready : IsReady (g.T.Timeline.pages l.timeline) (g.T.Timeline.touches l.timeline) l.now l.marks;
}

abbrev pub decreases-loop-rows : goal.decreases-loop-rows
decreases-loop-rows g l = (l.settings.end - l.now.from) + (1 - l.now.listed)
