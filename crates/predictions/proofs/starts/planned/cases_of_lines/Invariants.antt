use Rattle.std.proofs.Common.{◌≡◌, map, take}
use Rattle.predictions.specs.Starts.Cases.{case_of_line}
use Rattle.predictions.proofs.starts.planned.cases_of_lines.Given as goal

abbrev pub invariant-loop-line : goal.invariant-loop-line
invariant-loop-line l = l.cases.items ≡ map case_of_line (take l.line-index l.lines)
