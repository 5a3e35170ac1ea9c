use Rattle.std.proofs.Common.{◌≡◌, take}
use Rattle.move_schedules.specs.Schedules.{group_free}
use Rattle.move_schedules.proofs.scheduling.group_end.Given as goal

abbrev pub invariant-loop-each : goal.invariant-loop-each
invariant-loop-each l = l.end ≡ group_free (take l.each-index l.placed) l.group
