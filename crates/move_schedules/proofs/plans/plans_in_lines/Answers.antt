use Rattle.std.proofs.Common.{List, ◌+◌, map, take, subst, sym, arith}
use Rattle.std.specs.List.{AllZip}
use Rattle.move_schedules.specs.Tables.{HostPlan, SpellsPlan}
use Rattle.move_schedules.proofs.TableLemmas.{no_plan_there, plans_more}
use Rattle.move_schedules.proofs.plans.plans_in_lines.Goals as goal

pub returns-in-Err-NoPlan-clause-refused : goal.returns-in-Err-NoPlan-clause-refused
returns-in-Err-NoPlan-clause-refused c = no_plan_there c.args.lines.now c.loop-number.number _
    c.loop-number.plans.items _ (omega arith) c.loop-number-test.true c.loop-number.invariant.spelled
    (c.in-Err-NoPlan.ensures.refused c.in-Err-NoPlan.field-0-is)

pub loop-number-preserved : goal.loop-number-preserved
loop-number-preserved c =
    let lines = c.args.lines.now in
    let n = c.loop-number.number in
    record {
      spelled = subst (λ (l : List HostPlan). AllZip SpellsPlan (take (n + 1) (map (λ w. w.now) lines)) l)
          (sym c.in_ok-push-in-Ok.ensures.items)
          (plans_more lines n _ c.loop-number.plans.items c.in-Ok.plan c.loop-number-test.true
          c.loop-number.invariant.spelled c.in-Ok.ensures.spelled);
      within = omega arith;
    }
