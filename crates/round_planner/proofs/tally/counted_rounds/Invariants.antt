use Rattle.std.proofs.Common.{◌≡◌, ◌-◌, length}
use Rattle.round_planner.specs.Known.{AreKnown, IsAhead}
use Rattle.round_planner.proofs.tally.counted_rounds.Given as goal

abbrev pub invariant-loop-next : goal.invariant-loop-next
invariant-loop-next g l = record {
  ahead : IsAhead (g.T.Timeline.pages l.timeline) (g.T.Timeline.touches l.timeline) l.settings
      (record { numbers = l.now; since = l.since });
  known : AreKnown (g.T.Timeline.pages l.timeline) (g.T.Timeline.touches l.timeline) l.known;
  slots : length l.known ≡ 64;
}

abbrev pub decreases-loop-next : goal.decreases-loop-next
decreases-loop-next g l = 64 - l.now.step.done
