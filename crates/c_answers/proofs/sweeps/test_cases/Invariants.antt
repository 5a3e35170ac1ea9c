use Rattle.std.proofs.Common.{take}
use Rattle.std.specs.List.{All}
use Rattle.c_answers.specs.Settings.{AreGiven}
use Rattle.c_answers.proofs.sweeps.test_cases.Given as goal

abbrev pub invariant-loop-case : goal.invariant-loop-case
invariant-loop-case l = All AreGiven (take l.case-index l.cases)
