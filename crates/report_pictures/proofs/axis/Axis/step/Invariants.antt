use Rattle.std.proofs.Common.{◌-◌}
use Rattle.report_pictures.proofs.Rounds.{IsReached}
use Rattle.report_pictures.proofs.axis.Axis.step.Given as goal

abbrev pub invariant-loop-unit : goal.invariant-loop-unit
invariant-loop-unit l = IsReached l.span l.unit

abbrev pub decreases-loop-unit : goal.decreases-loop-unit
decreases-loop-unit l = l.span - l.unit
