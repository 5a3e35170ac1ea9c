use Rattle.std.proofs.Common.{◌-◌}
use Rattle.round_planner.proofs.ListedWays.{IsListedWay}
use Rattle.round_planner.proofs.planning.listed_rounds.Given as goal

abbrev pub invariant-loop-rounds : goal.invariant-loop-rounds
invariant-loop-rounds g l = IsListedWay (g.T.Timeline.pages l.timeline) (g.T.Timeline.touches l.timeline) l.settings
    l.now l.marks l.room l.rounds.items

abbrev pub decreases-loop-rounds : goal.decreases-loop-rounds
decreases-loop-rounds g l = 64 - l.now.step.done
