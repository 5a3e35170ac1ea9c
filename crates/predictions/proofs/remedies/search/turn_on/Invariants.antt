use Rattle.predictions.specs.Remedies.{AllAnswer}
use Rattle.predictions.specs.Remedies.Trials.{ReachesWith}
use Rattle.predictions.proofs.remedies.search.turn_on.Given as goal

abbrev pub invariant-loop-n : goal.invariant-loop-n
invariant-loop-n g l = AllAnswer (ReachesWith l.search.goal.aim (g.T.Timeline.pages l.timeline)
    (g.T.Timeline.touches l.timeline) l.trial l.search.goal.change) l.search.is_reached l.way l.n
