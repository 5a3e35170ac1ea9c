use Rattle.std.proofs.Common.{◌≡◌, map, take}
use Rattle.c_answers.specs.Settings.{settings_in}
use Rattle.c_answers.proofs.sweeps.settings_of_cases.Given as goal

abbrev pub invariant-loop-case : goal.invariant-loop-case
invariant-loop-case l = l.checked.items ≡ map settings_in (take l.case-index l.cases)
