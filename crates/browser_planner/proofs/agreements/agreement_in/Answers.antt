use Rattle.browser_planner.proofs.Agreeing.{agrees}
use Rattle.browser_planner.proofs.agreements.agreement_in.Goals as goal

pub returns : goal.returns
returns c =
    agrees c.args.trace.now c.args.terms.now c.of-log.result _ _ _ _ c.new.result c.of-log.ensures
    c.plan_over-prediction.ensures.predicts c.errors_over-errors.ensures c.draws_over.ensures c.starts_over.ensures
    c.new.ensures
