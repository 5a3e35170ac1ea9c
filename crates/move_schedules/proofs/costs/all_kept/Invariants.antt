use Rattle.std.proofs.Common.{◌≡◌, take, true}
use Rattle.std.specs.List.{list_all}
use Rattle.move_schedules.proofs.costs.all_kept.Given as goal

abbrev pub invariant-loop-each : goal.invariant-loop-each
invariant-loop-each l = list_all (λ m. m.is_kept) (take l.each-index l.moves) ≡ true
