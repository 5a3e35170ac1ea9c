use Rattle.std.proofs.Common.{◌++◌, ◌∙◌, ℕ, List, ap, arith}
use Rattle.migration_model.specs.Rounds.{PlannedRound}
use Rattle.report_pictures.specs.MeasuredScreens.{round_line}
use Rattle.report_pictures.proofs.Numbered.{all_texts, one_text_more}
use Rattle.report_pictures.proofs.units_screen.push_round_lines.Goals as goal

pub loop-number-preserved : goal.loop-number-preserved
loop-number-preserved c =
    let text : ℕ × PlannedRound → List ℕ = λ at. round_line c.args.style.now c.args.scale.now c.args.settings.now
    c.args.widths.now.time c.args.widths.now.size at.0 at.1 in
    one_text_more text c.loop-number.number c.args.rounds.now c.index-rounds-number.result c.args.text.now.items
    c.loop-number.text.items c.push_round.new.text.items (omega arith) c.index-rounds-number.is c.loop-number.invariant
    c.in_ok-push_round.ensures

pub returns : goal.returns
returns c =
    let text : ℕ × PlannedRound → List ℕ = λ at. round_line c.args.style.now c.args.scale.now c.args.settings.now
    c.args.widths.now.time c.args.widths.now.size at.0 at.1 in
    c.loop-number.invariant ∙ ap (λ (l : List ℕ). c.args.text.now.items ++ l)
    (all_texts text c.loop-number.number c.args.rounds.now (omega arith))
