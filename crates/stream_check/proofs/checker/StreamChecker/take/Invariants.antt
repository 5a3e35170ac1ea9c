use Rattle.std.proofs.Common.{◌≤◌, ◌+◌, length}
use Rattle.stream_check.specs.Checked.{TakesRight}
use Rattle.stream_check.proofs.checker.StreamChecker.take.Given as goal

abbrev pub invariant-loop-rest : goal.invariant-loop-rest
invariant-loop-rest g l = record {
  takes : TakesRight (g.W.WriteLog.trace l.trace) l.fn.self l.self l.bytes l.number l.rest;
  bound : l.number + length l.rest ≤ length l.bytes;
}

abbrev pub decreases-loop-rest : goal.decreases-loop-rest
decreases-loop-rest g l = length l.rest
