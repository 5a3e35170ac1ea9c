use Rattle.std.proofs.Common.{◌≡◌, ◌++◌}
use Rattle.report_pictures.specs.Bars.{round_parts}
use Rattle.report_pictures.specs.Columns.{row_text}
use Rattle.report_pictures.specs.Screens.{round_numbers}
use Rattle.report_pictures.proofs.Numbered.{first_texts}
use Rattle.report_pictures.proofs.screen.push_round_rows.Given as goal

abbrev pub invariant-loop-number : goal.invariant-loop-number
invariant-loop-number l = l.text.items ≡ l.fn.text.items
    ++ first_texts (λ at. row_text l.style l.widths l.most (round_numbers at.0 at.1) (round_parts at.1)) l.number
    l.rounds
