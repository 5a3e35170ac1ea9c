use Rattle.std.proofs.Common.{take}
use Rattle.predictions.specs.Starts.Cases.{AreCases}
use Rattle.predictions.proofs.starts.planned.push_cases.Given as goal

abbrev pub invariant-loop-case : goal.invariant-loop-case
invariant-loop-case g l = AreCases l.measure.manner (g.T.Timeline.pages l.timeline) (g.T.Timeline.touches l.timeline)
    l.measure.scale (take l.case-index l.settings) l.cases.items
