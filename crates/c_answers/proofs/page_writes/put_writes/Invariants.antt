use Rattle.std.proofs.Common.{◌-◌, length}
use Rattle.c_answers.proofs.PageRows.{Fills, Reaches}
use Rattle.c_answers.proofs.page_writes.put_writes.Given as goal

abbrev pub invariant-loop-next : goal.invariant-loop-next
invariant-loop-next l = record {
  reaches : Reaches l.trace l.page l.last l.next l.count;
  fills : Fills l.trace l.page l.last l.count l.fn.rows l.rows;
}

abbrev pub decreases-loop-next : goal.decreases-loop-next
decreases-loop-next l = length l.trace.writes - l.last
