-- How large the sums of a hypervisor's plan are.
use Rattle.std.proofs.Common.{◌≡◌, ℕ, ◌+◌, ◌-◌, ◌*◌, ◌<◌, ◌≤◌, Bool, true, false, cond, eqb, ltb, Option, Some, None}
use Rattle.std.proofs.Common.{List, [], ◌∷◌, length, drop, ◌||◌, MatchOption, refl, sym, ap, ◌∙◌, arith}
use Rattle.std.specs.Prelude.{IfSome}
use Rattle.std.specs.List.{range_with_len}
use Rattle.std.proofs.Math.Nat.{mul-le-mul_right}
use Rattle.std.proofs.lemmas.Bool.{eqb-false}
use Rattle.std.proofs.lemmas.List.{length-map}
use Rattle.std.proofs.lemmas.List.Sums.{sum_by-cons}
use Rattle.migration_model.specs.Looks.{AreHypervisorSettings, AreLists, HypervisorPlan, HypervisorSettings}
use Rattle.migration_model.specs.Looks.{IsHypervisorPlan, IsPlanEnd, NextList, PlanEnd, SentList, end_after, few_left}
use Rattle.migration_model.specs.Looks.{first_list, is_among, is_most, list_after, looks_done, pages_left, record_ends}
use Rattle.migration_model.specs.Looks.{sent_of}
use Rattle.migration_model.specs.Rounds.{pages_lacking}
use Rattle.migration_model.specs.Touches.{GuestTouch, is_written}
use Rattle.page_bitmap.proofs.Listed.{few_pages}
use Rattle.round_planner.proofs.Skims.{filter_all}
use Rattle.look_planner.specs.Laws.{AreLow}
use Rattle.look_planner.specs.Plans.{PlanNumbers, looks_in, looks_of, row_of}
use Rattle.look_planner.specs.Sums.{AreSums}
use Rattle.look_planner.specs.declared.sums.LookSums.{LookSums}
use Rattle.look_planner.proofs.Kept.{ordered, reaches, sent_at_the_rate_lem}
use Rattle.look_planner.proofs.Windows.{least}

left_few : (pages : ℕ) (touches : List GuestTouch) (list : SentList) → length (pages_left pages touches list) ≤ pages
left_few pages touches list = few_pages (λ page. is_among page (drop list.sent list.pages)
    || is_written touches list.from list.to page) 0 pages

-- a plan ends with a list, and before the record does
record HasEnd (pages : ℕ) (touches : List GuestTouch) (s : HypervisorSettings) (plan : HypervisorPlan) : Type 0 where
  pub list : SentList
  pub end : PlanEnd
  pub is : IsPlanEnd pages touches s list end plan
  pub high : list.to ≤ s.end

has_end_by : (pages : ℕ) (touches : List GuestTouch) (s : HypervisorSettings) (now : NextList) (list : SentList)
    (lists : List SentList) (plan : HypervisorPlan) (after : Option PlanEnd) → list.to ≤ s.end
    → MatchOption after (AreLists pages touches s (list_after pages touches now list) lists plan)
    (λ end. (lists ≡ []) × IsPlanEnd pages touches s list end plan)
    → (AreLists pages touches s (list_after pages touches now list) lists plan → HasEnd pages touches s plan)
    → HasEnd pages touches s plan
has_end_by pages touches s now list lists plan None high are next = next are
has_end_by pages touches s now list lists plan (Some end) high are next =
    record { list = list; end = end; is = are.1; high = high }

has_end : (pages : ℕ) (touches : List GuestTouch) (s : HypervisorSettings) (now : NextList) (lists : List SentList)
    (plan : HypervisorPlan) → now.from ≤ s.end → AreLists pages touches s now lists plan
    → HasEnd pages touches s plan
has_end pages touches s now [] plan high are = absurd are
has_end pages touches s now (list ∷ lists) plan high are =
    let order = ordered s now are.0 list high are.2 in
    has_end_by pages touches s now list lists plan (end_after s (now.from + are.0)
    (length (pages_left pages touches list)) (now.done + 1)) order.1 are.3
    (λ next. has_end pages touches s (list_after pages touches now list) lists plan order.1 next)

-- ---- how many pages are sent, and in how many lists

few_after : (pages : ℕ) (touches : List GuestTouch) (s : HypervisorSettings) (now : NextList) (list : SentList)
    (lists : List SentList) (plan : HypervisorPlan) (after : Option PlanEnd)
    → MatchOption after (AreLists pages touches s (list_after pages touches now list) lists plan)
    (λ end. (lists ≡ []) × IsPlanEnd pages touches s list end plan)
    → (AreLists pages touches s (list_after pages touches now list) lists plan
    → sent_of lists ≤ length lists * 65_536) → sent_of lists ≤ length lists * 65_536
few_after pages touches s now list lists plan None are next = next are
few_after pages touches s now list lists plan (Some end) are next = omega (arith, ap sent_of are.0)

-- a list sends no more pages than a guest has
few_sent : (pages : ℕ) (touches : List GuestTouch) (s : HypervisorSettings) (now : NextList) (lists : List SentList)
    (plan : HypervisorPlan) → pages ≤ 65_536 → length now.pages ≤ pages → AreLists pages touches s now lists plan
    → sent_of lists ≤ length lists * 65_536
few_sent pages touches s now [] plan small few are = absurd are
few_sent pages touches s now (list ∷ lists) plan small few are =
    let rest = few_after pages touches s now list lists plan (end_after s (now.from + are.0)
    (length (pages_left pages touches list)) (now.done + 1)) are.3
    (λ next. few_sent pages touches s (list_after pages touches now list) lists plan small
    (left_few pages touches list) next) in
    let sum = sum_by-cons (λ (l : SentList). l.sent) list lists in
    let here : list.sent ≤ 65_536 = omega (arith, are.2.sent_is, few, small) in
    omega (arith, rest, sum, here)

-- another list comes only if there may be more looks
not_most : (late few most : Bool) → cond late (Some record_ends) (cond few (Some few_left)
    (cond most (Some looks_done) None)) ≡ None → most ≡ false
not_most true few most is = absurd cc
not_most false true most is = absurd cc
not_most false false true is = absurd cc
not_most false false false is = refl

most_after : (pages : ℕ) (touches : List GuestTouch) (s : HypervisorSettings) (now : NextList) (list : SentList)
    (lists : List SentList) (plan : HypervisorPlan) (most look found : ℕ) (after : Option PlanEnd)
    → s.looks ≡ Some most → now.done < most → end_after s look found (now.done + 1) ≡ after
    → MatchOption after (AreLists pages touches s (list_after pages touches now list) lists plan)
    (λ end. (lists ≡ []) × IsPlanEnd pages touches s list end plan)
    → (now.done + 1 < most → AreLists pages touches s (list_after pages touches now list) lists plan
    → length lists + (now.done + 1) ≤ most) → length lists + (now.done + 1) ≤ most
most_after pages touches s now list lists plan most look found None is low told are next =
    let other : eqb (now.done + 1) most ≡ false = sym (ap (λ o. is_most o (now.done + 1)) is)
    ∙ not_most (ltb s.end look) (ltb found s.threshold) (is_most s.looks (now.done + 1)) told in
    next (omega (arith, low, eqb-false (now.done + 1) most other)) are
most_after pages touches s now list lists plan most look found (Some end) is low told are next =
    omega (arith, low, ap (λ (l : List SentList). length l) are.0)

-- there are no more lists than there may be looks
few_lists : (pages : ℕ) (touches : List GuestTouch) (s : HypervisorSettings) (now : NextList) (lists : List SentList)
    (plan : HypervisorPlan) (most : ℕ) → s.looks ≡ Some most → now.done < most
    → AreLists pages touches s now lists plan → length lists + now.done ≤ most
few_lists pages touches s now [] plan most is low are = absurd are
few_lists pages touches s now (list ∷ lists) plan most is low are =
    let look = now.from + are.0 in
    let found = length (pages_left pages touches list) in
    let rest = most_after pages touches s now list lists plan most look found
    (end_after s look found (now.done + 1)) is low refl are.3
    (λ under next. few_lists pages touches s (list_after pages touches now list) lists plan most is under next) in
    omega (arith, rest)

looks_near : (end : PlanEnd) (lists : ℕ) → (looks_of end lists ≤ lists) × (lists ≤ looks_of end lists + 1)
looks_near record_ends lists = (omega arith, omega arith)
looks_near few_left lists = (omega arith, omega arith)
looks_near looks_done lists = (omega arith, omega arith)

-- ---- the sums

lacking_few : (pages : ℕ) (touches : List GuestTouch) (base : Option ℕ) (tick : ℕ)
    → length (pages_lacking pages touches base tick) ≤ pages
lacking_few pages touches None tick = omega (
  arith,
  few_pages (λ page. true) 0 pages,
  ap (λ (l : List ℕ). length l) (filter_all (range_with_len 0 pages)),
)
lacking_few pages touches (Some base) tick = few_pages (is_written touches base tick) 0 pages

most_looks : (pages : ℕ) (touches : List GuestTouch) (s : HypervisorSettings) (plan : HypervisorPlan) (looks : ℕ)
    (most : Option ℕ) → s.looks ≡ most → IfSome most (λ most. 1 ≤ most) → IsHypervisorPlan pages touches s plan
    → looks ≤ length plan.lists → IfSome most (λ most. looks ≤ most)
most_looks pages touches s plan looks None is low are few = tt
most_looks pages touches s plan looks (Some most) is low are few = omega (
  arith,
  few_lists pages touches s (first_list pages touches s) plan.lists plan most is (omega (arith, low)) are,
  few,
)

pub low_sums_lem : (pages : ℕ) (touches : List GuestTouch) (s : HypervisorSettings) (sums : LookSums)
    → pages ≤ 65_536 → AreHypervisorSettings s → AreSums pages touches s sums → AreLow pages s sums
low_sums_lem pages touches s sums small in_range are =
    let plan = are.are_numbers.plan in
    let numbers = are.are_numbers.numbers_are in
    let has = are.has_sums in
    let end = has_end pages touches s (first_list pages touches s) plan.lists plan in_range.start_high
    are.are_numbers.is_plan in
    let low = reaches pages touches s (first_list pages touches s) plan.lists plan in_range.start_high
    are.are_numbers.is_plan in
    let sent = sent_at_the_rate_lem pages touches s plan in_range are.are_numbers.is_plan in
    let most = mul-le-mul_right (plan.stop - s.start) in_range.rate_high in
    let stop : sums.stop ≡ plan.stop = omega (arith, has.stop_is, ap (λ (n : PlanNumbers). n.stop) numbers) in
    let left : sums.left ≡ length plan.last =
    omega (arith, has.left_is, ap (λ (n : PlanNumbers). length n.last) numbers) in
    let few : length plan.last ≤ pages =
    omega (arith, ap (λ (l : List ℕ). length l) end.is.last_are, left_few pages touches end.list) in
    let listed = few_sent pages touches s (first_list pages touches s) plan.lists plan small
    (lacking_few pages touches s.base s.start) are.are_numbers.is_plan in
    let looks : sums.looks ≡ looks_of plan.end (length plan.lists) = has.looks_is
    ∙ ap (λ (n : PlanNumbers). looks_in n) numbers
    ∙ ap (looks_of plan.end) (length-map plan.lists (row_of pages touches)) in
    let near = looks_near plan.end (length plan.lists) in
    let down = least (length plan.last) s.rate (1_000 * length plan.last) in_range.rate_low
    (omega (arith, mul-le-mul_right {m = 1} {n = s.rate} (1_000 * length plan.last) in_range.rate_low)) in
    record {
      stop_low = omega (arith, low, stop);
      stop_high = omega (arith, end.high, end.is.stop_is, stop);
      left = omega (arith, left, few);
      total_low = omega (arith, has.total_is, has.left_is);
      total = omega (
        arith,
        has.total_is,
        has.left_is,
        ap (λ (n : PlanNumbers). n.sent) numbers,
        sent,
        most,
        stop,
      );
      down = omega (arith, has.down_is, ap (λ (n : PlanNumbers). n.down) numbers, end.is.down_is, down, left);
      lists = omega (
        arith,
        has.total_is,
        has.left_is,
        ap (λ (n : PlanNumbers). n.sent) numbers,
        listed,
        looks,
        near.1,
        left,
        few,
        small,
      );
      looks = most_looks pages touches s plan sums.looks s.looks refl in_range.looks_low are.are_numbers.is_plan
          (omega (arith, looks, near.0));
    }
