use Rattle.std.proofs.Common.{◌++◌, ◌∙◌, ℕ, List, ap, arith}
use Rattle.sweep_report.proofs.CaseLines.{one_case_more, all_cases}
use Rattle.sweep_report.proofs.cases.push_cases.Goals as goal

pub loop-number-preserved : goal.loop-number-preserved
loop-number-preserved c =
    one_case_more c.loop-number.number c.args.lines.now c.index-lines-number.result c.args.text.now.items
    c.loop-number.text.items c.push_case.new.text.items
    (omega arith) c.index-lines-number.is c.loop-number.invariant c.in_ok-push_case.ensures

pub returns : goal.returns
returns c =
    c.loop-number.invariant ∙ ap (λ (l : List ℕ). c.args.text.now.items ++ l)
    (all_cases c.loop-number.number c.args.lines.now (omega arith))
