use Rattle.std.proofs.Common.{◌≢◌, ℕ, ◌<◌, get_or}
use Rattle.c_answers.specs.FlatMemory.{not_come}
use Rattle.c_answers.proofs.flat_memory.first_missing.Given as goal

abbrev pub invariant-loop-number : goal.invariant-loop-number
invariant-loop-number l = record {
  came : (other : ℕ) → other < l.number → (get_or l.pages other not_come).came ≢ 0;
}
