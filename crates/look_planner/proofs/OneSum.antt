-- The sums of a hypervisor's plan are determined.
use Rattle.std.proofs.Common.{◌≡◌, ◌∙◌, ◌+◌, ℕ, List, length, refl, sym, ap}
use Rattle.migration_model.specs.Looks.{HypervisorPlan, HypervisorSettings}
use Rattle.migration_model.specs.Touches.{GuestTouch}
use Rattle.look_planner.specs.Plans.{AreNumbers, PlanNumbers, end_of, looks_in, numbers_of}
use Rattle.look_planner.specs.Sums.{AreSums, shortens}
use Rattle.look_planner.specs.declared.parts.PlanEnd.{PlanEnd as EndCode}
use Rattle.look_planner.specs.declared.parts.PlanEnd.TheVariants.{Few, Looks, Record}
use Rattle.look_planner.specs.declared.sums.LookSums.{LookSums}
use Rattle.look_planner.proofs.OnePlan.{one_look_plan_lem}

same_code : (a b : EndCode) → end_of a ≡ end_of b → a ≡ b
same_code Record Record is = refl
same_code Few Few is = refl
same_code Looks Looks is = refl
same_code Record Few is = absurd cc
same_code Record Looks is = absurd cc
same_code Few Record is = absurd cc
same_code Few Looks is = absurd cc
same_code Looks Record is = absurd cc
same_code Looks Few is = absurd cc

one_numbers : (pages : ℕ) (touches : List GuestTouch) (s : HypervisorSettings) (a b : PlanNumbers)
    → AreNumbers pages touches s a → AreNumbers pages touches s b → a ≡ b
one_numbers pages touches s a b x y =
    x.numbers_are
    ∙ ap (λ (p : HypervisorPlan). numbers_of pages touches p)
    (one_look_plan_lem pages touches s x.plan y.plan x.is_plan y.is_plan)
    ∙ sym y.numbers_are

pub one_set_of_sums : (pages : ℕ) (touches : List GuestTouch) (s : HypervisorSettings) (a b : LookSums)
    → AreSums pages touches s a → AreSums pages touches s b → a ≡ b
one_set_of_sums pages touches s a b x y =
    let same = one_numbers pages touches s x.numbers y.numbers x.are_numbers y.are_numbers in
    let m = x.has_sums in
    let n = y.has_sums in
    let end = same_code a.end b.end (m.end_is ∙ ap (λ (p : PlanNumbers). p.end) same ∙ sym n.end_is) in
    let looks = m.looks_is ∙ ap (λ (p : PlanNumbers). looks_in p) same ∙ sym n.looks_is in
    let stop = m.stop_is ∙ ap (λ (p : PlanNumbers). p.stop) same ∙ sym n.stop_is in
    let total = m.total_is ∙ ap (λ (p : PlanNumbers). p.sent + length p.last) same ∙ sym n.total_is in
    let left = m.left_is ∙ ap (λ (p : PlanNumbers). length p.last) same ∙ sym n.left_is in
    let down = m.down_is ∙ ap (λ (p : PlanNumbers). p.down) same ∙ sym n.down_is in
    let shorter = m.shortens_is ∙ ap (λ (p : PlanNumbers). shortens p.rows) same ∙ sym n.shortens_is in
    λ i. record {
      end = end i;
      looks = looks i;
      stop = stop i;
      total = total i;
      left = left i;
      down = down i;
      shortens = shorter i;
    }
