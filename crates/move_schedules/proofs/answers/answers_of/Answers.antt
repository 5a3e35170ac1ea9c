use Rattle.std.proofs.Common.{List, ◌+◌, take, subst, sym}
use Rattle.std.specs.List.{AllZip}
use Rattle.move_schedules.specs.Answers.{IsAnswer, PlanAnswer}
use Rattle.move_schedules.proofs.TableLemmas.{zip_more}
use Rattle.move_schedules.proofs.answers.answers_of.Goals as goal

pub loop-plan-preserved : goal.loop-plan-preserved
loop-plan-preserved c =
    let plans = c.args.plans.now in
    let i = c.loop-plan.plan-index in
    subst (λ (l : List PlanAnswer). AllZip IsAnswer (take (i + 1) plans) l)
    (sym {A = List PlanAnswer} c.in_ok-push.ensures.items)
    (zip_more IsAnswer plans c.loop-plan.answers.items i c.plan-item.result c.in_ok-answer_of.field-0
    c.loop-plan-test.true c.plan-item.is c.loop-plan.invariant c.in_ok-answer_of.ensures)
