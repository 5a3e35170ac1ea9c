use Rattle.std.proofs.Common.{◌-◌, ◌+◌, vec_len}
use Rattle.collector.specs.Tables.{Grows}
use Rattle.collector.proofs.table.make_place.Given as goal

abbrev pub invariant-loop-table : goal.invariant-loop-table
invariant-loop-table l = Grows l.fn.table.items l.table.items l.page

abbrev pub decreases-loop-table : goal.decreases-loop-table
decreases-loop-table l = l.page + 1 - vec_len l.table
