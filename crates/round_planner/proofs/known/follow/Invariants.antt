use Rattle.std.proofs.Common.{◌-◌}
use Rattle.round_planner.specs.Known.{IsAhead}
use Rattle.round_planner.proofs.known.follow.Given as goal

abbrev pub invariant-loop-ran : goal.invariant-loop-ran
invariant-loop-ran g l = IsAhead (g.T.Timeline.pages l._timeline) (g.T.Timeline.touches l._timeline) l.settings
    (record { numbers = l.now; since = l.since })

abbrev pub decreases-loop-ran : goal.decreases-loop-ran
decreases-loop-ran g l = 64 - l.now.step.done
