use Rattle.std.proofs.Common.{ℕ, ◌+◌, sym, subst, ◌∙◌, arith}
use Rattle.std.specs.List.{IsFirstBest}
use Rattle.browser_planner.specs.Starts.{is_worse_lent}
use Rattle.browser_planner.proofs.Choices.{worse_lents, keeps, takes}
use Rattle.browser_planner.proofs.starts.worst_place.Goals as goal
use Rattle.browser_planner.proofs.starts.worst_place.Goals.{then-is_worse_at, else-is_worse_at}

pub loop-number-preserved : goal.loop-number-preserved
loop-number-preserved c =
    let starts = c.args.starts.now in
    let i = c.loop-number.number in
    let order = worse_lents c.args.limit c.args.clark in
    let P : ℕ → Type 0 = λ b. IsFirstBest (is_worse_lent c.args.limit c.args.clark) starts (i + 1) b in
    elim c.if-is_worse_at.branch [
      | then-is_worse_at w ↦
          subst P (sym w.worst-is)
          (takes order starts i c.loop-number.worst c.loop-number.invariant (omega arith)
          (λ d. sym (c.is_worse_at.ensures d) ∙ w.if-is_worse_at.true))
      | else-is_worse_at w ↦
          subst P (sym w.worst-is)
          (keeps order starts i c.loop-number.worst c.loop-number.invariant (omega arith)
          (λ d. sym (c.is_worse_at.ensures d) ∙ w.if-is_worse_at.false))
    ]
