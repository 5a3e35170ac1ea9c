-- A hypervisor that asks only when all of a list is sent.
use Rattle.std.proofs.Common.{◌≡◌, ℕ, ◌+◌, ◌-◌, ◌*◌, ◌≤◌, Option, Some, None, List, [], ◌∷◌, length, MatchOption}
use Rattle.std.proofs.Common.{refl, ap, ◌∙◌, inl, inr, arith}
use Rattle.std.specs.List.{All}
use Rattle.std.proofs.Math.Nat.{mul-le-mul_right}
use Rattle.std.proofs.lemmas.Bool.{cases_lt}
use Rattle.std.proofs.lemmas.Grind.{div_ceil_times}
use Rattle.std.proofs.lemmas.List.Elements.{All-head, All-tail}
use Rattle.migration_model.specs.Looks.{AreHypervisorSettings, AreLists, HypervisorPlan, HypervisorSettings}
use Rattle.migration_model.specs.Looks.{IsHypervisorPlan, IsLook, IsPlanEnd, IsSentList, NextList, PlanEnd, SentList}
use Rattle.migration_model.specs.Looks.{end_after, first_list, list_after, pages_left, sent_in}
use Rattle.migration_model.specs.Rates.{duration_of}
use Rattle.migration_model.specs.Touches.{GuestTouch}
use Rattle.look_planner.proofs.Kept.{ordered}

-- all pages are sent in the ticks that they take
pub enough : (pages rate : ℕ) → 1 ≤ rate → 1_000 * pages ≤ rate * duration_of pages rate
enough pages rate some = omega (arith, (div_ceil_times (1_000 * pages) rate some).0)

-- and in no fewer
pub least : (pages rate ticks : ℕ) → 1 ≤ rate → 1_000 * pages ≤ rate * ticks → duration_of pages rate ≤ ticks
least pages rate ticks some all =
    let bound = (div_ceil_times (1_000 * pages) rate some).1 in
    elim (cases_lt ticks (duration_of pages rate)) [
      | inl less ↦ absurd (omega (
        arith,
        mul-le-mul_right {m = ticks + 1} {n = duration_of pages rate} rate
            (omega (arith, less)),
        bound,
        all,
      ))
      | inr more ↦ more
    ]

pub sent_whole : (pages rate : ℕ) → 1 ≤ rate → sent_in rate pages (duration_of pages rate) ≡ pages
sent_whole pages rate some = omega (arith, enough pages rate some)

-- with no window it looks when all pages of a list are sent
pub whole_look : (s : HypervisorSettings) (pages ticks : ℕ) → s.window ≡ 0 → 1 ≤ s.rate → 1 ≤ s.threshold
    → ticks ≡ duration_of pages s.rate → IsLook s pages ticks
whole_look s pages ticks none rate some is = record {
  asked = inl is;
  few = omega (arith, some, sent_whole pages s.rate rate, ap (λ t. sent_in s.rate pages t) is);
  first = λ earlier asked less. elim asked [
    | inl whole ↦ absurd (omega (arith, whole, is, less))
    | inr at ↦ absurd (omega (arith, at.1, at.2, ap (λ w. at.0 * w) none))
  ];
}

-- it looks no later than when all are sent
no_later : (s : HypervisorSettings) (pages ticks : ℕ) → 1 ≤ s.rate → 1 ≤ s.threshold → IsLook s pages ticks
    → ticks ≤ duration_of pages s.rate
no_later s pages ticks rate some look = elim (cases_lt (duration_of pages s.rate) ticks) [
  | inl less ↦ absurd (omega (
    arith,
    look.first (duration_of pages s.rate) (inl refl) less,
    sent_whole pages s.rate rate,
    some,
  ))
  | inr more ↦ more
]

abbrev pub without_window : HypervisorSettings → HypervisorSettings
without_window s = record s { window = 0 }

nothing_left : (s : HypervisorSettings) (now : NextList) (ticks : ℕ) (list : SentList) → AreHypervisorSettings s
    → now.from ≤ s.end → IsLook s (length now.pages) ticks → IsSentList s now ticks list
    → list.sent ≡ length list.pages → IsLook (without_window s) (length now.pages) ticks
nothing_left s now ticks list are high look is all =
    let count : list.sent ≡ length now.pages = all ∙ ap (λ (l : List ℕ). length l) is.pages_are in
    let sent : 1_000 * length now.pages ≤ s.rate * (list.to - now.from) = omega (arith, count, is.sent_is) in
    let long : duration_of (length now.pages) s.rate ≤ list.to - now.from =
    least (length now.pages) s.rate (list.to - now.from) are.rate_low sent in
    let short = no_later s (length now.pages) ticks are.rate_low are.threshold_low look in
    whole_look (without_window s) (length now.pages) ticks refl are.rate_low are.threshold_low
    (omega (arith, long, short, is.to_is, high))

same_list : (s : HypervisorSettings) (now : NextList) (ticks : ℕ) (list : SentList) → IsSentList s now ticks list
    → IsSentList (without_window s) now ticks list
same_list s now ticks list is =
    record { from_is = is.from_is; to_is = is.to_is; pages_are = is.pages_are; sent_is = is.sent_is }

same_end : (pages : ℕ) (touches : List GuestTouch) (s : HypervisorSettings) (list : SentList) (end : PlanEnd)
    (plan : HypervisorPlan) → IsPlanEnd pages touches s list end plan
    → IsPlanEnd pages touches (without_window s) list end plan
same_end pages touches s list end plan is =
    record { end_is = is.end_is; stop_is = is.stop_is; last_are = is.last_are; down_is = is.down_is }

without_after : (pages : ℕ) (touches : List GuestTouch) (s : HypervisorSettings) (now : NextList) (list : SentList)
    (lists : List SentList) (plan : HypervisorPlan) (after : Option PlanEnd)
    → MatchOption after (AreLists pages touches s (list_after pages touches now list) lists plan)
    (λ end. (lists ≡ []) × IsPlanEnd pages touches s list end plan)
    → (AreLists pages touches s (list_after pages touches now list) lists plan
    → AreLists pages touches (without_window s) (list_after pages touches now list) lists plan)
    → MatchOption after (AreLists pages touches (without_window s) (list_after pages touches now list) lists plan)
    (λ end. (lists ≡ []) × IsPlanEnd pages touches (without_window s) list end plan)
without_after pages touches s now list lists plan None are next = next are
without_after pages touches s now list lists plan (Some end) are next =
    (are.0, same_end pages touches s list end plan are.1)

without : (pages : ℕ) (touches : List GuestTouch) (s : HypervisorSettings) (now : NextList) (lists : List SentList)
    (plan : HypervisorPlan) → AreHypervisorSettings s → now.from ≤ s.end → AreLists pages touches s now lists plan
    → All (λ (list : SentList). list.sent ≡ length list.pages) lists
    → AreLists pages touches (without_window s) now lists plan
without pages touches s now [] plan in_range high are all = absurd are
without pages touches s now (list ∷ lists) plan in_range high are all =
    let whole = All-head (λ (list : SentList). list.sent ≡ length list.pages) list lists all in
    let rest = All-tail (λ (list : SentList). list.sent ≡ length list.pages) list lists all in
    let order = ordered s now are.0 list high are.2 in (
      are.0,
      nothing_left s now are.0 list in_range high are.1 are.2 whole,
      same_list s now are.0 list are.2,
      without_after pages touches s now list lists plan (end_after s (now.from + are.0)
          (length (pages_left pages touches list)) (now.done + 1)) are.3
          (λ next. without pages touches s (list_after pages touches now list) lists plan in_range order.1 next rest),
    )

pub nothing_left_lem : (pages : ℕ) (touches : List GuestTouch) (s : HypervisorSettings) (plan : HypervisorPlan)
    → AreHypervisorSettings s → IsHypervisorPlan pages touches s plan
    → All (λ (list : SentList). list.sent ≡ length list.pages) plan.lists
    → IsHypervisorPlan pages touches (record s { window = 0 }) plan
nothing_left_lem pages touches s plan in_range are all =
    without pages touches s (first_list pages touches s) plan.lists plan in_range in_range.start_high are all
