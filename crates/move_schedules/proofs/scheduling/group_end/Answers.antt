use Rattle.std.proofs.Common.{◌≡◌, take, sym, ◌∙◌, arith}
use Rattle.move_schedules.specs.Schedules.{group_free}
use Rattle.move_schedules.proofs.ScheduleLemmas.{group_free-more_in, group_free-more_out, no_placement}
use Rattle.move_schedules.proofs.scheduling.group_end.Goals as goal
use Rattle.move_schedules.proofs.scheduling.group_end.Goals.{then-is_in, else-is_in}

pub loop-each-preserved : goal.loop-each-preserved
loop-each-preserved c =
    let placed = c.args.placed.now in
    let i = c.loop-each.each-index in
    let before : c.loop-each.end ≡ group_free (take i placed) c.args.group = c.loop-each.invariant in
    elim c.if-is_in.branch [
      | then-is_in w ↦ omega (
        arith,
        before,
        w.end-is,
        w.max-end.ensures,
        group_free-more_in placed c.args.group i no_placement c.loop-each-test.true
            (sym c.is_in.ensures ∙ w.if-is_in.true),
      )
      | else-is_in w ↦ omega (
        arith,
        before,
        w.end-is,
        group_free-more_out placed c.args.group i no_placement c.loop-each-test.true
            (sym c.is_in.ensures ∙ w.if-is_in.false),
      )
    ]
