use Rattle.std.proofs.Common.{◌≡◌, ◌++◌}
use Rattle.report_pictures.proofs.Cells.{first_cells}
use Rattle.report_pictures.specs.HotStrips.{cell_text}
use Rattle.report_pictures.proofs.hot_pages.push_cells.Given as goal

abbrev pub invariant-loop-cell : goal.invariant-loop-cell
invariant-loop-cell l = l.text.items ≡ l.fn.text.items ++ first_cells (cell_text l.pages l.cells l.count) l.cell
