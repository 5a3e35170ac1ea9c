use Rattle.report_pictures.proofs.Cells.{one_cell_more}
use Rattle.report_pictures.specs.HotStrips.{cell_text}
use Rattle.report_pictures.proofs.hot_pages.push_cells.Goals as goal

pub loop-cell-preserved : goal.loop-cell-preserved
loop-cell-preserved c = one_cell_more (cell_text c.args.pages.now c.args.cells c.args.count) c.loop-cell.cell
    c.args.text.now.items c.loop-cell.text.items c.push_cell.new.text.items c.loop-cell.invariant
    c.in_ok-push_cell.ensures
