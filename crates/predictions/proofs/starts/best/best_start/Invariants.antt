use Rattle.predictions.specs.Starts.Choices.{IsBest}
use Rattle.predictions.proofs.starts.best.best_start.Given as goal

abbrev pub invariant-loop-case : goal.invariant-loop-case
invariant-loop-case g l = IsBest l.measure.manner (g.T.Timeline.pages l.timeline) (g.T.Timeline.touches l.timeline)
    l.measure.scale l.measure.limits l.cases l.case-index l.best
