use Rattle.std.proofs.Common.{◌≡◌, take}
use Rattle.move_schedules.specs.Costs.{worst_downtime}
use Rattle.move_schedules.proofs.costs.longest_downtime.Given as goal

abbrev pub invariant-loop-each : goal.invariant-loop-each
invariant-loop-each l = l.downtime ≡ worst_downtime (take l.each-index l.moves)
