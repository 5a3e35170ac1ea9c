use Rattle.sweep_report.proofs.Best.{IsBestOf}
use Rattle.sweep_report.proofs.cases.best_case.Given as goal

abbrev pub invariant-loop-number : goal.invariant-loop-number
invariant-loop-number l = IsBestOf l.lines l.number l.best
