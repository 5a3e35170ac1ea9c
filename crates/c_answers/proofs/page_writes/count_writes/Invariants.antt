use Rattle.std.proofs.Common.{◌-◌, length}
use Rattle.c_answers.proofs.PageRows.{Reaches}
use Rattle.c_answers.proofs.page_writes.count_writes.Given as goal

abbrev pub invariant-loop-next : goal.invariant-loop-next
invariant-loop-next l = Reaches l.trace l.page l.last l.next l.count

abbrev pub decreases-loop-next : goal.decreases-loop-next
decreases-loop-next l = length l.trace.writes - l.last
