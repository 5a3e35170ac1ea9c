use Rattle.std.proofs.Common.{◌≡◌, List, [], map, ap, sym, ◌∙◌}
use Rattle.move_schedules.specs.Answers.{PlanAnswer, cost_in}
use Rattle.move_schedules.proofs.TableLemmas.{no_plans}
use Rattle.move_schedules.proofs.texts.text_of_plans.Goals as goal

pub returns-clause-refused : goal.returns-clause-refused
returns-clause-refused c =
    let none : map cost_in c.in_ok-answers.answers.items ≡ [] =
    ap (λ (l : List PlanAnswer). map cost_in l) (sym c.deref.ensures.value) ∙ sym c.in_ok-costs.ensures
    ∙ sym c.deref-2.ensures.value ∙ c.in-None.ensures.none in
    no_plans c.args.plans.now c.in_ok-answers.answers.items c.in_ok-answers.ensures none
