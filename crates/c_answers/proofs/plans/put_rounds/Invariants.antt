use Rattle.std.proofs.Common.{◌≡◌, map, take}
use Rattle.c_answers.specs.Buffers.{over}
use Rattle.round_planner.specs.Rows.{row_of}
use Rattle.c_answers.proofs.plans.put_rounds.Given as goal

abbrev pub invariant-loop-number : goal.invariant-loop-number
invariant-loop-number l = l.room ≡ over (map row_of (take l.number l.rounds)) l.fn.room
