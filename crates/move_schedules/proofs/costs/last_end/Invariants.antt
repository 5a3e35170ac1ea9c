use Rattle.std.proofs.Common.{◌≡◌, take}
use Rattle.move_schedules.specs.Costs.{time_of}
use Rattle.move_schedules.proofs.costs.last_end.Given as goal

abbrev pub invariant-loop-each : goal.invariant-loop-each
invariant-loop-each l = l.end ≡ time_of (take l.each-index l.placed)
