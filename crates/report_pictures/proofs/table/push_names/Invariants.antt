use Rattle.std.proofs.Common.{◌≡◌, ◌++◌, map}
use Rattle.report_pictures.proofs.Cells.{first_cells, name_cell}
use Rattle.report_pictures.proofs.table.push_names.Given as goal

abbrev pub invariant-loop-column : goal.invariant-loop-column
invariant-loop-column l = l.text.items
    ≡ l.fn.text.items ++ first_cells (name_cell l.widths (map (λ name. name.now) l.names)) l.column
