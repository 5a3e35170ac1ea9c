use Rattle.std.proofs.Common.{ℕ, ◌+◌, sym, subst, ◌∙◌, arith}
use Rattle.std.specs.List.{IsFirstBest}
use Rattle.std.proofs.lemmas.List.MinMax.{IsFirstBest-keeps, IsFirstBest-takes}
use Rattle.predictions.specs.Starts.Choices.{is_worse_start}
use Rattle.predictions.proofs.Orders.{worse_order}
use Rattle.predictions.proofs.starts.choosing.worst_place.Goals as goal
use Rattle.predictions.proofs.starts.choosing.worst_place.Goals.{then-is_worse, else-is_worse}

pub loop-number-preserved : goal.loop-number-preserved
loop-number-preserved c =
    let costs = c.args.costs.now in
    let i = c.loop-number.number in
    let P : ℕ → Type 0 = λ b. IsFirstBest (is_worse_start c.args.limit) costs (i + 1) b in
    elim c.if-is_worse.branch [
      | then-is_worse w ↦
          subst P (sym w.worst-is)
          (IsFirstBest-takes (worse_order c.args.limit) costs i c.loop-number.worst c.index-costs-number.result
          c.index-costs-worst.result c.loop-number.invariant (omega arith) c.index-costs-number.is
          c.index-costs-worst.is (sym c.is_worse.ensures ∙ w.if-is_worse.true))
      | else-is_worse w ↦
          subst P (sym w.worst-is)
          (IsFirstBest-keeps (worse_order c.args.limit) costs i c.loop-number.worst c.index-costs-number.result
          c.index-costs-worst.result c.loop-number.invariant (omega arith) c.index-costs-number.is
          c.index-costs-worst.is (sym c.is_worse.ensures ∙ w.if-is_worse.false))
    ]
