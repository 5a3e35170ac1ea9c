use Rattle.std.proofs.Common.{◌≡◌, ◌-◌, length}
use Rattle.round_planner.specs.Known.{AreKnown}
use Rattle.round_planner.proofs.KnownRounds.{IsMarkedAhead}
use Rattle.round_planner.proofs.marked.marked_on.Given as goal

abbrev pub invariant-loop-next : goal.invariant-loop-next
invariant-loop-next g l = record {
  marked : IsMarkedAhead (g.T.Timeline.pages l.timeline) (g.T.Timeline.touches l.timeline) l.settings
      (record { numbers = l.now; since = l.since }) l.marks l.room;
  known : AreKnown (g.T.Timeline.pages l.timeline) (g.T.Timeline.touches l.timeline) l.known;
  slots : length l.known ≡ 64;
}

abbrev pub decreases-loop-next : goal.decreases-loop-next
decreases-loop-next g l = 64 - l.now.step.done
