use Rattle.std.proofs.Common.{◌≡◌, ◌++◌}
use Rattle.report_pictures.proofs.Cells.{first_cells, number_cell}
use Rattle.report_pictures.proofs.table.push_numbers.Given as goal

abbrev pub invariant-loop-column : goal.invariant-loop-column
invariant-loop-column l =
    l.text.items ≡ l.fn.text.items ++ first_cells (number_cell l.widths l.numbers) l.column
