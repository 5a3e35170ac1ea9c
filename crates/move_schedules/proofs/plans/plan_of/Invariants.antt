use Rattle.std.proofs.Common.{◌≡◌, map}
use Rattle.std.specs.List.{range_with_len}
use Rattle.move_schedules.specs.Tables.{move_at}
use Rattle.move_schedules.proofs.plans.plan_of.Given as goal

abbrev pub invariant-loop-place : goal.invariant-loop-place
invariant-loop-place l = l.moves.items ≡ map (move_at l.numbers) (range_with_len 0 l.place)
