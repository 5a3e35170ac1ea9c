use Rattle.report_pictures.proofs.Cells.{one_block_more}
use Rattle.report_pictures.proofs.bar.push_blocks.Goals as goal

pub loop-cell-preserved : goal.loop-cell-preserved
loop-cell-preserved c = one_block_more c.loop-cell._cell c.args.block.now c.args.text.now.items c.loop-cell.text.items
    c.push_words.new.text.items c.loop-cell.invariant c.in_ok-push_words.ensures
