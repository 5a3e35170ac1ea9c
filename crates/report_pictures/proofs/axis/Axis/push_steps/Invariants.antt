use Rattle.std.proofs.Common.{◌≡◌, ◌++◌}
use Rattle.report_pictures.proofs.Cells.{first_cells}
use Rattle.report_pictures.specs.Labels.{label_at}
use Rattle.report_pictures.proofs.axis.Axis.push_steps.Given as goal

abbrev pub invariant-loop-number : goal.invariant-loop-number
invariant-loop-number l =
    l.text.items ≡ l.fn.text.items ++ first_cells (label_at l.self l.scale l.bottom l.step) l.number
