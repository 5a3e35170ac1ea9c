use Rattle.std.proofs.Common.{arith}
use Rattle.sweep_report.proofs.Best.{best_found}
use Rattle.sweep_report.proofs.cases.best_case.Goals as goal

pub returns-clause-value : goal.returns-clause-value
returns-clause-value c =
    best_found c.args.lines.now c.loop-number.number c.loop-number.best (omega (arith, c.loop-number-test.false))
    (omega (arith, c.loop-number.auto.number-end c.requires)) c.loop-number.invariant
