use Rattle.predictions.specs.Shares.{VerdictAt}
use Rattle.predictions.proofs.LinkShares.{HaveVerdict}
use Rattle.predictions.proofs.shares.search.link_share_of.Given as goal

abbrev pub invariant-loop-steps : goal.invariant-loop-steps
invariant-loop-steps g l = HaveVerdict (VerdictAt (g.T.Timeline.pages l.timeline) (g.T.Timeline.touches l.timeline)
    l.trial) l.verdict l.steps
