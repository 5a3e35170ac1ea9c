use Rattle.std.proofs.Common.{◌≡◌, map, take}
use Rattle.move_schedules.specs.Answers.{cost_in}
use Rattle.move_schedules.proofs.answers.costs_of.Given as goal

abbrev pub invariant-loop-answer : goal.invariant-loop-answer
invariant-loop-answer l = l.costs.items ≡ map cost_in (take l.answer-index l.answers)
