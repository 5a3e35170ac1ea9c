use Rattle.std.proofs.Common.{◌≡◌, ◌+◌, length}
use Rattle.job_commands.proofs.telling.filled.Given as goal

abbrev pub invariant-loop : goal.invariant-loop
invariant-loop g l = length l.text.bytes ≡ length l.fn.text.bytes + l.counter
