use Rattle.std.proofs.Common.{◌≡◌, ◌+◌, length, sum, take}
use Rattle.c_answers.proofs.checking.test_sizes.Given as goal

abbrev pub invariant-loop-size : goal.invariant-loop-size
invariant-loop-size l = l.left + sum (take l.size-index l.sizes) ≡ length l.bytes
