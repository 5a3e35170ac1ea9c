use Rattle.std.proofs.Common.{◌↔◌, ◌+◌, ℕ, below_more, subst}
use Rattle.std.specs.Prelude.{IsTrue}
use Rattle.predictions.specs.Remedies.{amount_on}
use Rattle.predictions.specs.Remedies.Trials.{ReachesWith}
use Rattle.predictions.proofs.Turns.{same_answer}
use Rattle.predictions.proofs.remedies.search.turn_on.Goals as goal

pub loop-n-preserved : goal.loop-n-preserved
loop-n-preserved g c =
    let Keeps : ℕ → Type 0 = ReachesWith c.args.search.goal.aim (g.T.Timeline.pages c.args.timeline.now)
    (g.T.Timeline.touches c.args.timeline.now) c.args.trial.now c.args.search.goal.change in
    let is_kept = c.args.search.is_reached in
    let here = same_answer c.reaches_with.result is_kept (Keeps c.amount-at.result) c.if-reaches_with-search.false
    c.reaches_with.ensures in
    below_more (λ n. IsTrue is_kept ↔ Keeps (amount_on c.args.way (n + 1))) c.loop-n.n c.loop-n.invariant
    (subst (λ (n : ℕ). IsTrue is_kept ↔ Keeps n) c.amount-at.ensures here)
