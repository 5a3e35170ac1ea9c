use Rattle.std.proofs.Common.{arith}
use Rattle.working_sets.proofs.Kept.{hot_more}
use Rattle.working_sets.proofs.hot.hot_pages.Goals as goal

pub loop-page-preserved : goal.loop-page-preserved
loop-page-preserved c =
    hot_more c.args.marks.now c.args.hot c.loop-page.page c.loop-page.pages.items c.push_if.new.pages.items
    (omega arith) c.loop-page.invariant c.in_ok-push_if.ensures
