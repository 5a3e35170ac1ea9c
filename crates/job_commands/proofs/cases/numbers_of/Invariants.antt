use Rattle.std.proofs.Common.{◌≡◌, length, take}
use Rattle.job_commands.proofs.CaseLemmas.{HasRead}
use Rattle.job_commands.proofs.cases.numbers_of.Given as goal

abbrev pub invariant-loop-number : goal.invariant-loop-number
invariant-loop-number l = record {
  so_far : HasRead l.word l.parts (take l.number-index l.number-items);
  six : length l.number-items ≡ 6;
}
