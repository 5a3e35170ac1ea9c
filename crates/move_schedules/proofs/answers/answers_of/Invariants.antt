use Rattle.std.proofs.Common.{take}
use Rattle.std.specs.List.{AllZip}
use Rattle.move_schedules.specs.Answers.{IsAnswer}
use Rattle.move_schedules.proofs.answers.answers_of.Given as goal

abbrev pub invariant-loop-plan : goal.invariant-loop-plan
invariant-loop-plan l = AllZip IsAnswer (take l.plan-index l.plans) l.answers.items
