use Rattle.std.proofs.Common.{arith}
use Rattle.collector.proofs.Tabled.{Grows-push}
use Rattle.collector.proofs.table.make_place.Goals as goal

pub loop-table-preserved : goal.loop-table-preserved
loop-table-preserved c =
    rw c.in_ok-push.ensures.items
    (Grows-push c.args.table.now.items c.loop-table.table.items c.args.page c.loop-table.invariant
    (omega (arith, c.loop-table.table.ok.0)))
