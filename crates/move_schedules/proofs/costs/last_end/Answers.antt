use Rattle.std.proofs.Common.{◌≡◌, take, arith}
use Rattle.move_schedules.specs.Costs.{time_of}
use Rattle.move_schedules.specs.declared.moves.Placement.{Placement}
use Rattle.move_schedules.proofs.GreatestLemmas.{greatest_more}
use Rattle.move_schedules.proofs.ScheduleLemmas.{no_placement}
use Rattle.move_schedules.proofs.costs.last_end.Goals as goal

pub loop-each-preserved : goal.loop-each-preserved
loop-each-preserved c =
    let i = c.loop-each.each-index in
    let before : c.loop-each.end ≡ time_of (take i c.args.placed.now) = c.loop-each.invariant in
    omega (
      arith,
      before,
      c.max-end.ensures,
      greatest_more (λ (p : Placement). p.end) c.args.placed.now i no_placement c.loop-each-test.true,
    )
