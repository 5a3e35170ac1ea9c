use Rattle.std.proofs.Common.{◌≡◌, ◌-◌, ◌∙◌, ℕ, subst, sym}
use Rattle.std.proofs.lemmas.Bool.{false≢true}
use Rattle.predictions.specs.Shares.{VerdictAt}
use Rattle.predictions.specs.declared.verdict.Verdict.{Verdict}
use Rattle.predictions.proofs.LinkShares.{all_first, one_more, turns_at, turns_nowhere}
use Rattle.predictions.proofs.shares.search.link_share_of.Goals as goal

pub loop-steps-init : goal.loop-steps-init
loop-steps-init g c =
    all_first (VerdictAt (g.T.Timeline.pages c.args.timeline.now) (g.T.Timeline.touches c.args.timeline.now)
    c.args.trial.now) c.verdict_at-verdict.result c.verdict_at-verdict.ensures

pub returns-then-not-is_same : goal.returns-then-not-is_same
returns-then-not-is_same g c =
    turns_at (VerdictAt (g.T.Timeline.pages c.args.timeline.now) (g.T.Timeline.touches c.args.timeline.now)
    c.args.trial.now) c.verdict_at-verdict.result c.verdict_at-other.result c.loop-steps.steps c.loop-steps-test.true
    c.loop-steps.invariant c.verdict_at-other.ensures
    (λ (same : c.verdict_at-other.result ≡ c.verdict_at-verdict.result).
    false≢true (sym c.if-not-is_same.true ∙ c.is_same.ensures.1 same))

pub loop-steps-preserved : goal.loop-steps-preserved
loop-steps-preserved g c =
    let At : ℕ → Verdict → Type 0 = VerdictAt (g.T.Timeline.pages c.args.timeline.now)
    (g.T.Timeline.touches c.args.timeline.now) c.args.trial.now in
    let next = 99 - c.loop-steps.steps in
    one_more At c.verdict_at-verdict.result c.loop-steps.steps c.loop-steps-test.true c.loop-steps.invariant
    (subst (λ (v : Verdict). At next v) (c.is_same.ensures.0 c.if-not-is_same.false) c.verdict_at-other.ensures)

pub returns : goal.returns
returns g c =
    turns_nowhere (VerdictAt (g.T.Timeline.pages c.args.timeline.now) (g.T.Timeline.touches c.args.timeline.now)
    c.args.trial.now) c.verdict_at-verdict.result c.loop-steps.steps c.loop-steps-test.false c.loop-steps.invariant
