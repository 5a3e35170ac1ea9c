use Rattle.std.proofs.Common.{List, ℕ, subst, sym}
use Rattle.std.proofs.lemmas.Result.{IfErr-weaker}
use Rattle.move_schedules.specs.Tables.{SpellsNumbers}
use Rattle.move_schedules.proofs.TableLemmas.{no_plan}
use Rattle.move_schedules.proofs.plans.plan_in_line.Goals as goal

pub returns-clause-refused : goal.returns-clause-refused
returns-clause-refused c =
    let line = c.args.line.now in
    let spelled : SpellsNumbers line c.deref.result.now = subst (λ (l : List ℕ). SpellsNumbers line l)
    (sym c.deref.ensures.value) c.in_ok-numbers.ensures.spelled in
    IfErr-weaker c.plan_of.result _ _ (λ e refused same. no_plan line c.deref.result.now spelled (refused same))
    c.plan_of.ensures.refused
