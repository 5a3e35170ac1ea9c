use Rattle.std.proofs.Common.{ℕ, List, ap, subst, sym, arith}
use Rattle.migration_model.specs.Sweeps.{PlanOutcome}
use Rattle.round_planner.specs.Steps.{numbers_after}
use Rattle.predictions.proofs.Ways.{IsUnderWay, comes_to, goes_further, short_duration, starts}
use Rattle.predictions.proofs.redrawn.plans.redrawn_outcome.Goals as goal

pub loop-next-init : goal.loop-next-init
loop-next-init g c = record {
  way = starts (g.T.Timeline.pages c.args.timeline.now) (g.T.Timeline.touches c.args.timeline.now) c.args.drawn.now
      c.args.settings.now c.first_redrawn-now.result c.first_redrawn-now.new.listed c.first_redrawn-now.new.marks
      c.first_redrawn-now.ensures.stands c.first_redrawn-now.ensures.in_range c.first_redrawn-now.ensures.done
      c.first_redrawn-now.ensures.total;
}

pub returns-in-Stop-clause-outcome : goal.returns-in-Stop-clause-outcome
returns-in-Stop-clause-outcome g c =
    let before = c.loop-next.invariant.way in
    let ran = c.run_round-ran.ensures.ran before.coming before.at in
    let end = rw c.in-Stop.is at c.after.ensures in
    comes_to (g.T.Timeline.pages c.args.timeline.now) (g.T.Timeline.touches c.args.timeline.now) c.args.drawn.now
    c.args.settings.now c.loop-next.now c.run_round-ran.result end.0 c.in-Stop.outcome c.loop-next.listed
    c.loop-next.marks c.run_round-ran.new.marks before ran end.1.0 end.1.1

pub returns-in-Stop-clause-total : goal.returns-in-Stop-clause-total
returns-in-Stop-clause-total g c =
    let before = c.loop-next.invariant.way in
    let ran = c.run_round-ran.ensures.ran before.coming before.at in
    let end = rw c.in-Stop.is at c.after.ensures in
    omega (
      arith,
      ap (λ (o : PlanOutcome). o.total) end.1.1,
      before.few,
      before.at.can.done_low,
      before.at.can.rounds_few,
      before.at.done_is,
      ran.sent_is,
      ran.run.few,
      c.run_round-ran.ensures.few,
    )

pub returns-in-Stop-clause-stop : goal.returns-in-Stop-clause-stop
returns-in-Stop-clause-stop g c =
    let before = c.loop-next.invariant.way in
    let ran = c.run_round-ran.ensures.ran before.coming before.at in
    let end = rw c.in-Stop.is at c.after.ensures in
    omega (
      arith,
      ap (λ (o : PlanOutcome). o.stop) end.1.1,
      before.soon,
      before.at.can.done_low,
      before.at.can.rounds_few,
      before.at.done_is,
      before.at.from_is,
      ran.to_is,
      ran.run.is_round.from_is,
      ran.run.short,
    )

pub returns-in-Stop-clause-down : goal.returns-in-Stop-clause-down
returns-in-Stop-clause-down g c =
    let end = rw c.in-Stop.is at c.after.ensures in
    let are = c.loop-next.invariant.way.are in
    let few = short_duration c.run_round-ran.result.dirtied c.args.settings.now.max c.run_round-ran.ensures.few
    (omega (arith, are.min_low, are.max_low)) in
    omega (arith, ap (λ (o : PlanOutcome). o.down) end.1.1, few)

pub loop-next-preserved : goal.loop-next-preserved
loop-next-preserved g c =
    let before = c.loop-next.invariant.way in
    let now = c.loop-next.now in
    let s = c.args.settings.now in
    let ran = c.run_round-ran.ensures.ran before.coming before.at in
    let next = rw c.in-Round.is at c.after.ensures in
    let pages = g.T.Timeline.pages c.args.timeline.now in
    let touches = g.T.Timeline.touches c.args.timeline.now in
    let drawn = c.args.drawn.now in
    let turned : IsUnderWay pages touches drawn s (numbers_after now c.run_round-ran.result c.in-Round.next.step)
    c.run_round-ran.new.marks c.turn.new.marks =
    goes_further pages touches drawn s now c.run_round-ran.result c.in-Round.next.step c.loop-next.listed
    c.loop-next.marks c.run_round-ran.new.marks c.turn.new.marks c.requires.drawn before ran next.0
    (λ from tick. c.turn.ensures.marks pages from tick c.run_round-ran.result.next touches) in
    record {
      way = rw next.1 (subst (λ (l : List ℕ). IsUnderWay pages touches drawn s
          (numbers_after now c.run_round-ran.result c.in-Round.next.step) l c.turn.new.marks)
          (sym c.turn.ensures.listed) turned);
    }
