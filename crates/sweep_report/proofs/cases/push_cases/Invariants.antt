use Rattle.std.proofs.Common.{◌≡◌, ◌++◌}
use Rattle.sweep_report.proofs.CaseLines.{first_cases}
use Rattle.sweep_report.proofs.cases.push_cases.Given as goal

abbrev pub invariant-loop-number : goal.invariant-loop-number
invariant-loop-number l = l.text.items ≡ l.fn.text.items ++ first_cases l.number l.lines
