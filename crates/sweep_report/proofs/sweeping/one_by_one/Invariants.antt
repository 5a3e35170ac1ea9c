use Rattle.std.proofs.Common.{take}
use Rattle.migration_model.specs.Sweeps.{AreLines}
use Rattle.sweep_report.proofs.sweeping.one_by_one.Given as goal

abbrev pub invariant-loop-case : goal.invariant-loop-case
invariant-loop-case g l = AreLines (g.T.Timeline.pages l.timeline) (g.T.Timeline.touches l.timeline)
    (take l.case-index l.cases) l.lines.items
