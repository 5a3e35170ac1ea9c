use Rattle.std.proofs.Common.{◌≡◌, ◌++◌}
use Rattle.report_pictures.specs.MeasuredScreens.{round_line}
use Rattle.report_pictures.proofs.Numbered.{first_texts}
use Rattle.report_pictures.proofs.units_screen.push_round_lines.Given as goal

abbrev pub invariant-loop-number : goal.invariant-loop-number
invariant-loop-number l = l.text.items ≡ l.fn.text.items
    ++ first_texts (λ at. round_line l.style l.scale l.settings l.widths.time l.widths.size at.0 at.1) l.number l.rounds
