use Rattle.std.proofs.Common.{refl, subst, sym}
use Rattle.std.proofs.lemmas.Result.{err_from_is_err_and}
use Rattle.c_answers.specs.Plans.{RefusesPlan}
use Rattle.c_answers.proofs.Given.{no_plan, unread_plan}
use Rattle.c_answers.proofs.plans.planned.Goals as goal

pub returns-in-Err-clause-refused : goal.returns-in-Err-clause-refused
returns-in-Err-clause-refused c =
    no_plan c.args.trace.now c.args.settings.now c.in-Err.refusal c.in-Err.ensures.refused

pub returns-in_err-log-clause-refused : goal.returns-in_err-log-clause-refused
returns-in_err-log-clause-refused c =
    let p = err_from_is_err_and c.from_residual.result c.from_residual.ensures.1 in
    rw p.1 (subst (RefusesPlan c.args.trace.now c.args.settings.now) (sym p.2)
    (unread_plan c.args.trace.now c.args.settings.now c.in_err-log.field-0.0 (c.in-Ok.ensures.given.0 refl)
    c.in_err-log.ensures.refused))
