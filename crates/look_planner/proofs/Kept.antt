-- No page is lost, each look finds what was written, and no more is sent than the rate allows.
use Rattle.std.proofs.Common.{◌≡◌, ℕ, zero, suc, ◌+◌, ◌-◌, ◌*◌, ◌<◌, ◌≤◌, ◌⊎◌, Bool, true, false, cond, ◌&&◌, ◌||◌}
use Rattle.std.proofs.Common.{eqb, ltb, leb, Option, Some, None, List, [], ◌∷◌, ◌++◌, length, get_or, map, take, drop}
use Rattle.std.proofs.Common.{MatchOption, add-one, refl, sym, ap, ◌∙◌, inl, inr, arith}
use Rattle.std.specs.Prelude.{IsTrue}
use Rattle.std.specs.List.{filter, list_any, range_with_len}
use Rattle.std.proofs.lemmas.Bool.{and_from, and_parts, cases_Bool, cases_eq, cases_lt, eq-eqb, eqb-true, false≢true}
use Rattle.std.proofs.lemmas.Bool.{leb-true}
use Rattle.std.proofs.lemmas.Bool.{le-leb, lt-ltb, ltb-true, or_cases, or_left, or_right}
use Rattle.std.proofs.lemmas.List.{take-append-drop}
use Rattle.std.proofs.lemmas.List.Folds.{Any-from_list_any, list_any-append, list_any_at}
use Rattle.std.proofs.lemmas.List.Sums.{sum_by-cons}
use Rattle.migration_model.specs.Looks.{AreHypervisorSettings, AreLists, HypervisorPlan, HypervisorSettings}
use Rattle.migration_model.specs.Looks.{IsHypervisorPlan, IsPlanEnd, IsSentList, NextList, PlanEnd, SentList, end_after}
use Rattle.migration_model.specs.Looks.{first_list, is_among, list_after, pages_left, sent_in, sent_of}
use Rattle.migration_model.specs.Rounds.{pages_lacking}
use Rattle.migration_model.specs.Touches.{GuestTouch, is_written}
use Rattle.round_planner.proofs.Skims.{never_written}
use Rattle.look_planner.specs.Laws.{IsSentWith, no_list, pages_after}

-- ---- pages of a filtered range

here_or_there : (b : Bool) (page x : ℕ) (xs : List ℕ) → list_any (eqb page) xs ≡ true
    → list_any (eqb page) (cond b (x ∷ xs) xs) ≡ true
here_or_there true page x xs is = or_right (eqb page x) (list_any (eqb page) xs) is
here_or_there false page x xs is = is

-- a number of a range that passes a test is among those that do
among_filter : (test : ℕ → Bool) (page a n : ℕ) → a ≤ page → page < a + n → test page ≡ true
    → is_among page (filter test (range_with_len a n)) ≡ true
among_filter test page a zero low high is = absurd (omega (arith, low, high))
among_filter test page a (suc n) low high is = elim (cases_eq a page) [
  | inl same ↦
      let head : test a ≡ true = ap test same ∙ is in
      let rest = filter test (range_with_len (a + 1) n) in
      ap (λ b. is_among page (cond b (a ∷ rest) rest)) head
      ∙ or_left (eqb page a) (is_among page rest) (eq-eqb page a (sym same))
  | inr other ↦ here_or_there (test a) page a (filter test (range_with_len (a + 1) n))
      (among_filter test page (a + 1) n (omega (arith, low, other)) (omega (arith, high)) is)
]

-- what a look finds
pub found : (pages page : ℕ) (touches : List GuestTouch) (list : SentList) → page < pages
    → (is_among page (drop list.sent list.pages) || is_written touches list.from list.to page) ≡ true
    → is_among page (pages_left pages touches list) ≡ true
found pages page touches list low is = among_filter (λ page. is_among page (drop list.sent list.pages)
    || is_written touches list.from list.to page) page 0 pages (omega arith) (omega (arith, low)) is

-- ---- ranges of ticks

written_in : (touches : List GuestTouch) (from to page k : ℕ) (d : GuestTouch) → k < length touches
    → (get_or touches k d).page ≡ page → from ≤ (get_or touches k d).tick → (get_or touches k d).tick < to
    → is_written touches from to page ≡ true
written_in touches from to page k d inside here low high =
    list_any_at (λ (t : GuestTouch). eqb t.page page && (leb from t.tick && ltb t.tick to)) touches k d inside
    (and_from _ _ (eq-eqb _ _ here) (and_from _ _ (le-leb from _ low) (lt-ltb _ to high)))

-- what is written in ticks is written in the first or in the last of them
pub written_parts : (touches : List GuestTouch) (from mid to page : ℕ) → is_written touches from to page ≡ true
    → (is_written touches from mid page ≡ true) ⊎ (is_written touches mid to page ≡ true)
written_parts touches from mid to page is =
    let any = Any-from_list_any (λ (t : GuestTouch). eqb t.page page && (leb from t.tick && ltb t.tick to))
    touches is in
    let t = any.1 in
    let tests = and_parts (eqb t.page page) (leb from t.tick && ltb t.tick to) any.4 in
    let ticks = and_parts (leb from t.tick) (ltb t.tick to) tests.1 in
    let here : (get_or touches any.0 t).page ≡ page = ap (λ (x : GuestTouch). x.page) any.3
    ∙ eqb-true t.page page tests.0 in
    let at : (get_or touches any.0 t).tick ≡ t.tick = ap (λ (x : GuestTouch). x.tick) any.3 in
    let low : from ≤ t.tick = leb-true from t.tick ticks.0 in
    let high : t.tick < to = ltb-true t.tick to ticks.1 in
    elim (cases_lt t.tick mid) [
      | inl early ↦ inl (written_in touches from mid page any.0 t any.2 here (omega (arith, at, low))
          (omega (arith, at, early)))
      | inr late ↦ inr (written_in touches mid to page any.0 t any.2 here (omega (arith, at, late))
          (omega (arith, at, high)))
    ]

-- ---- lists go on until the stop

pub ordered : (s : HypervisorSettings) (now : NextList) (ticks : ℕ) (list : SentList) → now.from ≤ s.end
    → IsSentList s now ticks list → (list.from ≤ list.to) × (list.to ≤ s.end)
ordered s now ticks list high is = (omega (arith, is.from_is, is.to_is, high), omega (arith, is.to_is))

reaches_by : (pages : ℕ) (touches : List GuestTouch) (s : HypervisorSettings) (now : NextList) (list : SentList)
    (lists : List SentList) (plan : HypervisorPlan) (after : Option PlanEnd)
    → MatchOption after (AreLists pages touches s (list_after pages touches now list) lists plan)
    (λ end. (lists ≡ []) × IsPlanEnd pages touches s list end plan)
    → (AreLists pages touches s (list_after pages touches now list) lists plan → list.to ≤ plan.stop)
    → list.to ≤ plan.stop
reaches_by pages touches s now list lists plan None are next = next are
reaches_by pages touches s now list lists plan (Some end) are next = omega (arith, are.1.stop_is)

-- no list begins after the stop
pub reaches : (pages : ℕ) (touches : List GuestTouch) (s : HypervisorSettings) (now : NextList) (lists : List SentList)
    (plan : HypervisorPlan) → now.from ≤ s.end → AreLists pages touches s now lists plan → now.from ≤ plan.stop
reaches pages touches s now [] plan high are = absurd are
reaches pages touches s now (list ∷ lists) plan high are =
    let order = ordered s now are.0 list high are.2 in
    let to = reaches_by pages touches s now list lists plan (end_after s (now.from + are.0)
    (length (pages_left pages touches list)) (now.done + 1)) are.3
    (λ next. reaches pages touches s (list_after pages touches now list) lists plan order.1 next) in
    omega (arith, to, order.0, are.2.from_is)

pub reaches_stop : (pages : ℕ) (touches : List GuestTouch) (s : HypervisorSettings) (now : NextList) (list : SentList)
    (lists : List SentList) (plan : HypervisorPlan) → now.from ≤ s.end
    → AreLists pages touches s now (list ∷ lists) plan → list.to ≤ plan.stop
reaches_stop pages touches s now list lists plan high are =
    let order = ordered s now are.0 list high are.2 in
    reaches_by pages touches s now list lists plan (end_after s (now.from + are.0)
    (length (pages_left pages touches list)) (now.done + 1)) are.3
    (λ next. reaches pages touches s (list_after pages touches now list) lists plan order.1 next)

-- ---- no page is lost

-- the pages of a list are those that are sent, and those that are left of it
parts_of : (page sent : ℕ) (pages : List ℕ) → is_among page pages ≡ true
    → (is_among page (take sent pages) ≡ true) ⊎ (is_among page (drop sent pages) ≡ true)
parts_of page sent pages is = or_cases (is_among page (take sent pages)) (is_among page (drop sent pages))
    (sym (list_any-append (eqb page) (take sent pages) (drop sent pages))
    ∙ ap (is_among page) (take-append-drop sent pages) ∙ is)

-- a page is in the list, or it is written later
abbrev IsOwed : List GuestTouch → ℕ → ℕ → List ℕ → ℕ → Type 0
IsOwed touches from stop pages page = (is_among page pages ≡ true) ⊎ (is_written touches from stop page ≡ true)

-- a page that is owed is sent for good, or it is owed after the look
step : (pages page : ℕ) (touches : List GuestTouch) (list : SentList) (stop : ℕ) → page < pages
    → IsOwed touches list.from stop list.pages page
    → ((is_among page (take list.sent list.pages) ≡ true) × (is_written touches list.from stop page ≡ false))
    ⊎ IsOwed touches list.to stop (pages_left pages touches list) page
step pages page touches list stop low owed = elim (cases_Bool (is_written touches list.from stop page)) [
  | inl some ↦ inr (elim (written_parts touches list.from list.to stop page some) [
    | inl early ↦ inl (found pages page touches list low (or_right (is_among page (drop list.sent list.pages))
        (is_written touches list.from list.to page) early))
    | inr late ↦ inr late
  ])
  | inr none ↦ elim owed [
    | inl there ↦ elim (parts_of page list.sent list.pages there) [
      | inl sent ↦ inl (sent, none)
      | inr left ↦ inr (inl (found pages page touches list low (or_left (is_among page (drop list.sent list.pages))
          (is_written touches list.from list.to page) left)))
    ]
    | inr some ↦ absurd (false≢true (sym none ∙ some))
  ]
]

-- what holds of some lists holds of more
with_more : (touches : List GuestTouch) (list : SentList) (lists : List SentList) (stop page : ℕ)
    → IsSentWith touches lists stop page → IsSentWith touches (list ∷ lists) stop page
with_more touches list lists stop page is = record {
  list = is.list;
  there = (suc is.there.0, omega (arith, is.there.1), is.there.2);
  sent = is.sent;
  unwritten = is.unwritten;
}

kept_after : (pages page : ℕ) (touches : List GuestTouch) (s : HypervisorSettings) (now : NextList) (list : SentList)
    (lists : List SentList) (plan : HypervisorPlan) (after : Option PlanEnd)
    → MatchOption after (AreLists pages touches s (list_after pages touches now list) lists plan)
    (λ end. (lists ≡ []) × IsPlanEnd pages touches s list end plan)
    → (AreLists pages touches s (list_after pages touches now list) lists plan
    → (is_among page plan.last ≡ true) ⊎ IsSentWith touches lists plan.stop page)
    → IsOwed touches list.to plan.stop (pages_left pages touches list) page
    → (is_among page plan.last ≡ true) ⊎ IsSentWith touches (list ∷ lists) plan.stop page
kept_after pages page touches s now list lists plan None are next owed = elim (next are) [
  | inl last ↦ inl last
  | inr sent ↦ inr (with_more touches list lists plan.stop page sent)
]
kept_after pages page touches s now list lists plan (Some end) are next owed = elim owed [
  | inl left ↦ inl (ap (is_among page) are.1.last_are ∙ left)
  | inr late ↦ absurd (false≢true (sym (never_written touches list.to plan.stop page are.1.stop_is) ∙ late))
]

kept : (pages page : ℕ) (touches : List GuestTouch) (s : HypervisorSettings) (now : NextList) (lists : List SentList)
    (plan : HypervisorPlan) → page < pages → AreLists pages touches s now lists plan
    → IsOwed touches now.from plan.stop now.pages page
    → (is_among page plan.last ≡ true) ⊎ IsSentWith touches lists plan.stop page
kept pages page touches s now [] plan low are owed = absurd are
kept pages page touches s now (list ∷ lists) plan low are owed =
    let here : IsOwed touches list.from plan.stop list.pages page = rw (are.2.from_is, are.2.pages_are) owed in
    elim (step pages page touches list plan.stop low here) [
      | inl sent ↦ inr (record {
        list = list;
        there = (zero, omega arith, refl);
        sent = sent.0;
        unwritten = sent.1;
      })
      | inr next ↦ kept_after pages page touches s now list lists plan (end_after s (now.from + are.0)
          (length (pages_left pages touches list)) (now.done + 1)) are.3
          (λ rest. kept pages page touches s (list_after pages touches now list) lists plan low rest next) next
    ]

pub no_page_is_lost_lem : (pages page : ℕ) (touches : List GuestTouch) (s : HypervisorSettings) (plan : HypervisorPlan)
    → IsHypervisorPlan pages touches s plan → page < pages
    → IsTrue (is_among page (pages_lacking pages touches s.base s.start))
    ⊎ IsTrue (is_written touches s.start plan.stop page)
    → IsTrue (is_among page plan.last) ⊎ IsSentWith touches plan.lists plan.stop page
no_page_is_lost_lem pages page touches s plan are low owed =
    kept pages page touches s (first_list pages touches s) plan.lists plan low are owed

-- ---- what each look finds

next_pages : (pages : ℕ) (touches : List GuestTouch) (s : HypervisorSettings) (now : NextList) (list : SentList)
    (lists : List SentList) (plan : HypervisorPlan) (after : Option PlanEnd)
    → MatchOption after (AreLists pages touches s (list_after pages touches now list) lists plan)
    (λ end. (lists ≡ []) × IsPlanEnd pages touches s list end plan)
    → get_or (map (λ (l : SentList). l.pages) lists ++ plan.last ∷ []) 0 [] ≡ pages_left pages touches list
next_pages pages touches s now list [] plan None are = absurd are
next_pages pages touches s now list (next ∷ lists) plan None are = are.2.pages_are
next_pages pages touches s now list [] plan (Some end) are = are.1.last_are
next_pages pages touches s now list (next ∷ lists) plan (Some end) are = absurd cc

follow_after : (pages : ℕ) (touches : List GuestTouch) (s : HypervisorSettings) (now : NextList) (list : SentList)
    (lists : List SentList) (plan : HypervisorPlan) (k : ℕ) (after : Option PlanEnd)
    → MatchOption after (AreLists pages touches s (list_after pages touches now list) lists plan)
    (λ end. (lists ≡ []) × IsPlanEnd pages touches s list end plan) → k < length lists
    → (AreLists pages touches s (list_after pages touches now list) lists plan
    → get_or (map (λ (l : SentList). l.pages) lists ++ plan.last ∷ []) (suc k) []
    ≡ pages_left pages touches (get_or lists k no_list))
    → get_or (map (λ (l : SentList). l.pages) lists ++ plan.last ∷ []) (suc k) []
    ≡ pages_left pages touches (get_or lists k no_list)
follow_after pages touches s now list lists plan k None are low next = next are
follow_after pages touches s now list lists plan k (Some end) are low next =
    absurd (omega (arith, ap (λ (l : List SentList). length l) are.0, low))

follow : (pages : ℕ) (touches : List GuestTouch) (s : HypervisorSettings) (now : NextList) (lists : List SentList)
    (plan : HypervisorPlan) (k : ℕ) → AreLists pages touches s now lists plan → k < length lists
    → get_or (map (λ (l : SentList). l.pages) lists ++ plan.last ∷ []) (suc k) []
    ≡ pages_left pages touches (get_or lists k no_list)
follow pages touches s now [] plan k are low = absurd are
follow pages touches s now (list ∷ lists) plan zero are low = next_pages pages touches s now list lists plan
    (end_after s (now.from + are.0) (length (pages_left pages touches list)) (now.done + 1)) are.3
follow pages touches s now (list ∷ lists) plan (suc k) are low =
    let inside : k < length lists = omega (arith, low) in
    follow_after pages touches s now list lists plan k
    (end_after s (now.from + are.0) (length (pages_left pages touches list)) (now.done + 1)) are.3 inside
    (λ next. follow pages touches s (list_after pages touches now list) lists plan k next inside)

pub a_look_finds_lem : (pages k page : ℕ) (touches : List GuestTouch) (s : HypervisorSettings) (plan : HypervisorPlan)
    → IsHypervisorPlan pages touches s plan → k < length plan.lists → page < pages
    → IsTrue (is_written touches (get_or plan.lists k no_list).from (get_or plan.lists k no_list).to page)
    → IsTrue (is_among page (pages_after plan k))
a_look_finds_lem pages k page touches s plan are inside low is =
    let list = get_or plan.lists k no_list in
    let next : pages_after plan k ≡ pages_left pages touches list =
    ap (λ n. get_or (map (λ (l : SentList). l.pages) plan.lists ++ plan.last ∷ []) n []) (add-one k)
    ∙ follow pages touches s (first_list pages touches s) plan.lists plan k are inside in
    ap (is_among page) next ∙ found pages page touches list low (or_right (is_among page (drop list.sent list.pages))
    (is_written touches list.from list.to page) is)

-- ---- the rate

sent_slowly : (rate pages ticks : ℕ) → 1_000 * sent_in rate pages ticks ≤ rate * ticks
sent_slowly rate pages ticks = omega arith

slowly_after : (pages : ℕ) (touches : List GuestTouch) (s : HypervisorSettings) (now : NextList) (list : SentList)
    (lists : List SentList) (plan : HypervisorPlan) (after : Option PlanEnd)
    → MatchOption after (AreLists pages touches s (list_after pages touches now list) lists plan)
    (λ end. (lists ≡ []) × IsPlanEnd pages touches s list end plan)
    → (AreLists pages touches s (list_after pages touches now list) lists plan
    → 1_000 * sent_of lists ≤ s.rate * (plan.stop - list.to)) → 1_000 * sent_of lists ≤ s.rate * (plan.stop - list.to)
slowly_after pages touches s now list lists plan None are next = next are
slowly_after pages touches s now list lists plan (Some end) are next = omega (arith, ap sent_of are.0)

slowly : (pages : ℕ) (touches : List GuestTouch) (s : HypervisorSettings) (now : NextList) (lists : List SentList)
    (plan : HypervisorPlan) → now.from ≤ s.end → AreLists pages touches s now lists plan
    → 1_000 * sent_of lists ≤ s.rate * (plan.stop - now.from)
slowly pages touches s now [] plan high are = absurd are
slowly pages touches s now (list ∷ lists) plan high are =
    let order = ordered s now are.0 list high are.2 in
    let stop = reaches_stop pages touches s now list lists plan high are in
    let here = sent_slowly s.rate (length now.pages) (list.to - now.from) in
    let rest = slowly_after pages touches s now list lists plan (end_after s (now.from + are.0)
    (length (pages_left pages touches list)) (now.done + 1)) are.3
    (λ next. slowly pages touches s (list_after pages touches now list) lists plan order.1 next) in
    let sum = sum_by-cons (λ (l : SentList). l.sent) list lists in
    let ticks : plan.stop - now.from ≡ (list.to - now.from) + (plan.stop - list.to) =
    omega (arith, order.0, stop, are.2.from_is) in
    let all = ap (λ t. s.rate * t) ticks in
    omega (arith, here, rest, sum, all, are.2.sent_is)

pub sent_at_the_rate_lem : (pages : ℕ) (touches : List GuestTouch) (s : HypervisorSettings) (plan : HypervisorPlan)
    → AreHypervisorSettings s → IsHypervisorPlan pages touches s plan
    → 1_000 * sent_of plan.lists ≤ s.rate * (plan.stop - s.start)
sent_at_the_rate_lem pages touches s plan in_range are =
    slowly pages touches s (first_list pages touches s) plan.lists plan in_range.start_high are
