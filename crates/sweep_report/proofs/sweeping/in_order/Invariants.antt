use Rattle.std.proofs.Common.{take}
use Rattle.migration_model.specs.Sweeps.{AreLines}
use Rattle.sweep_report.specs.Sweeping.{AreTaken}
use Rattle.sweep_report.proofs.sweeping.in_order.Given as goal

abbrev pub invariant-loop-number : goal.invariant-loop-number
invariant-loop-number g l = record {
  taken : AreTaken (g.T.Timeline.pages l.timeline) (g.T.Timeline.touches l.timeline) l.cases l.taken.items;
  lines : AreLines (g.T.Timeline.pages l.timeline) (g.T.Timeline.touches l.timeline) (take l.number l.cases)
      l.lines.items;
}
