use Rattle.std.proofs.Common.{◌≡◌, ◌-◌, length}
use Rattle.round_planner.proofs.MarkedWays.{IsMarkedWay}
use Rattle.round_planner.proofs.marked.marked_rounds.Given as goal

abbrev pub invariant-loop-next : goal.invariant-loop-next
invariant-loop-next g l = record {
  way : IsMarkedWay (g.T.Timeline.pages l.timeline) (g.T.Timeline.touches l.timeline) l.settings l.now l.marks l.room
      l.fn.rows l.rows;
  rows_len : length l.rows ≡ length l.fn.rows;
}

abbrev pub decreases-loop-next : goal.decreases-loop-next
decreases-loop-next g l = 64 - l.now.step.done
