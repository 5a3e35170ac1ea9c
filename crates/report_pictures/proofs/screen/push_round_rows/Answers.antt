use Rattle.std.proofs.Common.{◌++◌, ◌∙◌, ℕ, List, ap, arith}
use Rattle.migration_model.specs.Rounds.{PlannedRound}
use Rattle.report_pictures.specs.Bars.{BarPart, round_parts}
use Rattle.report_pictures.specs.Columns.{row_text}
use Rattle.report_pictures.specs.Screens.{round_numbers}
use Rattle.report_pictures.proofs.Numbered.{all_texts, one_text_more}
use Rattle.report_pictures.proofs.screen.push_round_rows.Goals as goal

pub loop-number-preserved : goal.loop-number-preserved
loop-number-preserved c =
    let text : ℕ × PlannedRound → List ℕ = λ at. row_text c.args.style.now c.args.widths.now c.args.most
    (round_numbers at.0 at.1) (round_parts at.1) in
    one_text_more text c.loop-number.number c.args.rounds.now c.index-rounds-number.result c.args.text.now.items
    c.loop-number.text.items c.push_row.new.text.items (omega arith) c.index-rounds-number.is c.loop-number.invariant
    (c.in_ok-push_row.ensures
    ∙ ap (λ (numbers : List ℕ). c.loop-number.text.items
    ++ row_text c.args.style.now c.args.widths.now c.args.most numbers c.round_bar.result)
    c.numbers_of_round-numbers.ensures
    ∙ ap (λ (parts : List BarPart). c.loop-number.text.items ++ row_text c.args.style.now c.args.widths.now c.args.most
    (round_numbers c.loop-number.number c.index-rounds-number.result) parts) c.round_bar.ensures)

pub returns : goal.returns
returns c =
    let text : ℕ × PlannedRound → List ℕ = λ at. row_text c.args.style.now c.args.widths.now c.args.most
    (round_numbers at.0 at.1) (round_parts at.1) in
    c.loop-number.invariant ∙ ap (λ (l : List ℕ). c.args.text.now.items ++ l)
    (all_texts text c.loop-number.number c.args.rounds.now (omega arith))
