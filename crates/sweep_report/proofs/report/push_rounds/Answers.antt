use Rattle.std.proofs.Common.{◌++◌, ◌∙◌, ℕ, List, ap, arith}
use Rattle.sweep_report.proofs.Rounds.{one_line_more, all_lines}
use Rattle.sweep_report.proofs.report.push_rounds.Goals as goal

pub loop-number-preserved : goal.loop-number-preserved
loop-number-preserved c =
    one_line_more c.loop-number.number c.args.rounds.now c.index-rounds-number.result c.args.text.now.items
    c.loop-number.text.items c.push_round.new.text.items
    (omega arith) c.index-rounds-number.is c.loop-number.invariant c.in_ok-push_round.ensures

pub returns : goal.returns
returns c =
    c.loop-number.invariant ∙ ap (λ (l : List ℕ). c.args.text.now.items ++ l)
    (all_lines c.loop-number.number c.args.rounds.now (omega arith))
