use Rattle.std.proofs.Common.{◌≡◌, take, arith}
use Rattle.move_schedules.specs.Costs.{worst_downtime}
use Rattle.move_schedules.specs.declared.moves.Move.{Move}
use Rattle.move_schedules.proofs.GreatestLemmas.{greatest_more}
use Rattle.move_schedules.proofs.ScheduleLemmas.{no_move}
use Rattle.move_schedules.proofs.costs.longest_downtime.Goals as goal

pub loop-each-preserved : goal.loop-each-preserved
loop-each-preserved c =
    let i = c.loop-each.each-index in
    let before : c.loop-each.downtime ≡ worst_downtime (take i c.args.moves.now) = c.loop-each.invariant in
    omega (
      arith,
      before,
      c.max-downtime.ensures,
      greatest_more (λ (m : Move). m.downtime) c.args.moves.now i no_move c.loop-each-test.true,
    )
