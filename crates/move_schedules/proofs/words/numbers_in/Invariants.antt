use Rattle.std.proofs.Common.{map, take}
use Rattle.std.specs.List.{AllZip}
use Rattle.move_schedules.specs.Tables.{IsNumber}
use Rattle.move_schedules.proofs.words.numbers_in.Given as goal

abbrev pub invariant-loop-word : goal.invariant-loop-word
invariant-loop-word l = AllZip IsNumber (take l.word-index (map (λ w. w.now) l.words)) l.numbers.items
