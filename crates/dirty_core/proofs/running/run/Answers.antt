use Rattle.dirty_core.proofs.EveryPage.{CaughtUp-run, OnlyDue-run}
use Rattle.dirty_core.proofs.Runs.{Reached-more, Stops-reached, Reached-all}
use Rattle.dirty_core.proofs.running.run.Goals as goal

pub loop-index-preserved : goal.loop-index-preserved
loop-index-preserved c =
    Reached-more _ _ _ _ _ _ _ c.loop-index-test.true c.loop-index.invariant c.in_default.ensures.done
    c.step.ensures.sizes

pub returns-in-Err-step-clause-refused : goal.returns-in-Err-step-clause-refused
returns-in-Err-step-clause-refused c =
    Stops-reached _ _ _ _ _ _ c.loop-index-test.true c.loop-index.invariant c.in-Err-step.ensures.refused

pub returns-clause-legal : goal.returns-clause-legal
returns-clause-legal c = (Reached-all _ _ _ _ c.loop-index-test.false c.loop-index.invariant).0

pub returns-clause-leads : goal.returns-clause-leads
returns-clause-leads c = (Reached-all _ _ _ _ c.loop-index-test.false c.loop-index.invariant).1

pub returns-clause-caught_up : goal.returns-clause-caught_up
returns-clause-caught_up c = CaughtUp-run _ _ (Reached-all _ _ _ _ c.loop-index-test.false c.loop-index.invariant).0

pub returns-clause-only_due : goal.returns-clause-only_due
returns-clause-only_due c = OnlyDue-run _ _ (Reached-all _ _ _ _ c.loop-index-test.false c.loop-index.invariant).0
