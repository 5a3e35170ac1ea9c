use Rattle.std.proofs.Common.{ℕ, ◌+◌, sym, subst, ◌∙◌, arith}
use Rattle.std.specs.List.{IsFirstBest}
use Rattle.browser_planner.specs.Starts.{is_better_lent}
use Rattle.browser_planner.proofs.Choices.{better_lents, keeps, takes}
use Rattle.browser_planner.proofs.starts.best_place.Goals as goal
use Rattle.browser_planner.proofs.starts.best_place.Goals.{then-is_better_at, else-is_better_at}

pub loop-number-preserved : goal.loop-number-preserved
loop-number-preserved c =
    let starts = c.args.starts.now in
    let i = c.loop-number.number in
    let order = better_lents c.args.limit c.args.clark in
    let P : ℕ → Type 0 = λ b. IsFirstBest (is_better_lent c.args.limit c.args.clark) starts (i + 1) b in
    elim c.if-is_better_at.branch [
      | then-is_better_at w ↦
          subst P (sym w.best-is)
          (takes order starts i c.loop-number.best c.loop-number.invariant (omega arith)
          (λ d. sym (c.is_better_at.ensures d) ∙ w.if-is_better_at.true))
      | else-is_better_at w ↦
          subst P (sym w.best-is)
          (keeps order starts i c.loop-number.best c.loop-number.invariant (omega arith)
          (λ d. sym (c.is_better_at.ensures d) ∙ w.if-is_better_at.false))
    ]
