use Rattle.std.proofs.Common.{ℕ, ◌+◌, ◌<◌, length, get_or, sym, subst, ◌∙◌, arith}
use Rattle.std.specs.List.{IsFirstBest}
use Rattle.std.proofs.lemmas.List.{get_or_default}
use Rattle.std.proofs.lemmas.List.MinMax.{IsFirstBest-keeps, IsFirstBest-takes}
use Rattle.move_schedules.specs.Choices.{is_better_schedule}
use Rattle.move_schedules.proofs.Orders.{better_order, no_cost}
use Rattle.move_schedules.proofs.choosing.best_place.Goals as goal
use Rattle.move_schedules.proofs.choosing.best_place.Goals.{then-is_better, else-is_better}

pub loop-number-preserved : goal.loop-number-preserved
loop-number-preserved c =
    let costs = c.args.costs.now in
    let i = c.loop-number.number in
    let b = c.loop-number.best in
    let low : i < length costs = omega arith in
    let known : b < length costs = omega (arith, c.loop-number.invariant.0) in
    let x = get_or costs i no_cost in
    let y = get_or costs b no_cost in
    let P : ℕ → Type 0 = λ b. IsFirstBest is_better_schedule costs (i + 1) b in
    elim c.if-is_better.branch [
      | then-is_better w ↦
          subst P (sym w.best-is)
          (IsFirstBest-takes better_order costs i b x y c.loop-number.invariant low
          (get_or_default costs i no_cost x low)
          (get_or_default costs b no_cost y known) (sym c.is_better.ensures ∙ w.if-is_better.true))
      | else-is_better w ↦
          subst P (sym w.best-is)
          (IsFirstBest-keeps better_order costs i b x y c.loop-number.invariant low
          (get_or_default costs i no_cost x low)
          (get_or_default costs b no_cost y known) (sym c.is_better.ensures ∙ w.if-is_better.false))
    ]
