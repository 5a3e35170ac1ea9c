use Rattle.std.proofs.Common.{◌≡◌, ◌*◌, ◌^◌, length}
use Rattle.open_checks.proofs.WrongBytes.{AreSameTo}
use Rattle.open_checks.proofs.differences.test_memory.Given as goal

abbrev pub invariant-loop-page : goal.invariant-loop-page
invariant-loop-page l = record {
  room : length l.room ≡ 2 ^ l.trace.shift;
  same : AreSameTo l.trace l.count l.memory (l.page * 2 ^ l.trace.shift);
}
