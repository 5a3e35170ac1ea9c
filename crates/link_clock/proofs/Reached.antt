-- When so much is sent: the walk along the changes of a link until then.
use Rattle.std.proofs.Common.{◌≡◌, ◌∙◌, ℕ, ◌+◌, ◌-◌, ◌*◌, ◌/◌, ◌%◌, ◌<◌, ◌≤◌, ◌^◌, min, List, [], ◌∷◌, sym, ap, subst}
use Rattle.std.proofs.Common.{suc, drop, drop-cons, get_or, inl, inr, length, refl, arith}
use Rattle.std.proofs.Math.ListN.{drop_of_length-le}
use Rattle.std.proofs.Math.Nat.{mul-le-mul_left}
use Rattle.std.proofs.lemmas.Bool.{cases_lt}
use Rattle.std.proofs.lemmas.Grind.{div_ceil_times}
use Rattle.std.proofs.lemmas.Nat.{mul-le}
use Rattle.link_clock.specs.Links.{ChangingLink, IsSentBy, sent_before, sent_from}
use Rattle.link_clock.specs.declared.link.LinkChange.{LinkChange}
use Rattle.link_clock.proofs.Changes.{AreChanges, IsSound}
use Rattle.link_clock.proofs.Sending.{sent_bound, sent_later, sent_none, times_sum}

-- from a tick on a link has this rate, and these changes are left
pub record IsAt (link : ChangingLink) (from rate : ℕ) (left : List LinkChange) : Type 0 where
  pub low : 1 ≤ rate
  pub within : rate ≤ link.rate
  pub early : from ≤ 2 ^ 40
  pub changes : AreChanges link.rate from left

pub begins : (link : ChangingLink) → IsSound link → IsAt link 0 link.rate link.changes
begins link is = record { low = is.low; within = omega arith; early = omega arith; changes = is.changes }

pub goes_on : (link : ChangingLink) (from rate : ℕ) (change : LinkChange) (left : List LinkChange)
    → IsAt link from rate (change ∷ left) → IsAt link change.tick change.rate left
goes_on link from rate change left at = record {
  low = at.changes.0.some;
  within = at.changes.0.within;
  early = at.changes.0.early;
  changes = at.changes.1;
}

left_at : (changes : List LinkChange) (i : ℕ) (d : LinkChange) → i < length changes
    → drop i changes ≡ get_or changes i d ∷ drop (i + 1) changes
left_at changes i d low =
    let next : suc i ≡ i + 1 = omega arith in
    drop-cons changes i d low ∙ ap (λ (n : ℕ). get_or changes i d ∷ drop n changes) next

-- ---- the sum until a tick

pub record IsSum (link : ChangingLink) (tick from rate sent : ℕ) (left : List LinkChange) : Type 0 where
  pub at : IsAt link from rate left
  pub sum : sent + sent_from from rate left tick ≡ sent_before link tick

pub sum_begins : (link : ChangingLink) (tick : ℕ) → IsSound link → IsSum link tick 0 link.rate 0 link.changes
sum_begins link tick is = record { at = begins link is; sum = omega arith }

-- what is sent until change `i` is no more than all
pub sum_here : (link : ChangingLink) (tick from rate sent i : ℕ) (d : LinkChange) → i < length link.changes
    → IsSum link tick from rate sent (drop i link.changes)
    → sent + rate * (min tick (get_or link.changes i d).tick - from) ≤ sent_before link tick
sum_here link tick from rate sent i d low is =
    let sum = ap (λ (l : List LinkChange). sent + sent_from from rate l tick) (sym (left_at link.changes i d low))
    ∙ is.sum in
    omega (arith, sum)

pub sum_ends : (link : ChangingLink) (tick from rate sent i : ℕ) → length link.changes ≤ i
    → IsSum link tick from rate sent (drop i link.changes) → sent + rate * (tick - from) ≡ sent_before link tick
sum_ends link tick from rate sent i high is =
    ap (λ (l : List LinkChange). sent + sent_from from rate l tick) (sym (drop_of_length-le link.changes high)) ∙ is.sum

-- all that is sent before a tick fits
pub all_fits : (link : ChangingLink) (tick : ℕ) → IsSound link → tick ≤ 2 ^ 43 → sent_before link tick ≤ 2 ^ 63
all_fits link tick is early =
    let bound = sent_bound link.rate link.rate 0 link.changes tick is.changes (omega arith) in
    let high : link.rate * (tick - 0) ≤ 1_000_000 * 2 ^ 43 = mul-le link.rate (tick - 0) 1_000_000 (2 ^ 43) is.high
    (omega (arith, early)) in
    omega (arith, bound, high)

-- ---- the walk until so much is sent

pub record IsWay (link : ChangingLink) (amount from rate sent : ℕ) (left : List LinkChange) : Type 0 where
  pub at : IsAt link from rate left
  pub rest : (tick : ℕ) → from ≤ tick → sent_before link tick ≡ sent + sent_from from rate left tick
  pub enough : sent ≤ amount
  pub before : (earlier : ℕ) → earlier < from → sent_before link earlier < amount

pub way_begins : (link : ChangingLink) (amount : ℕ) → IsSound link → IsWay link amount 0 link.rate 0 link.changes
way_begins link amount is = record {
  at = begins link is;
  rest = λ tick late. omega arith;
  enough = omega arith;
  before = λ earlier less. absurd (omega (arith, less));
}

-- what is sent until the next change
pub sent_here : (link : ChangingLink) (amount from rate sent : ℕ) (change : LinkChange) (left : List LinkChange)
    → IsWay link amount from rate sent (change ∷ left) → (tick : ℕ) → from ≤ tick → tick ≤ change.tick
    → sent_before link tick ≡ sent + rate * (tick - from)
sent_here link amount from rate sent change left way tick late early =
    let none = sent_none link.rate change.rate change.tick left tick way.at.changes.1 early in
    let ticks : min tick change.tick - from ≡ tick - from = omega (arith, early) in
    omega (arith, way.rest tick late, none, ap (λ (n : ℕ). rate * n) ticks)

pub way_goes_on : (link : ChangingLink) (amount from rate sent : ℕ) (change : LinkChange) (left : List LinkChange)
    → IsWay link amount from rate sent (change ∷ left) → sent + rate * (change.tick - from) < amount
    → IsWay link amount change.tick change.rate (sent + rate * (change.tick - from)) left
way_goes_on link amount from rate sent change left way more =
    let order = way.at.changes.0.order in
    let here = sent_here link amount from rate sent change left way change.tick order (omega arith) in
    record {
      at = goes_on link from rate change left way.at;
      rest = λ tick late.
          let ticks : min tick change.tick - from ≡ change.tick - from = omega (arith, late) in
          omega (arith, way.rest tick (omega (arith, late, order)), ap (λ (n : ℕ). rate * n) ticks);
      enough = omega (arith, more);
      before = λ earlier less. omega (
        arith,
        here,
        more,
        sent_later link.rate 0 link.changes earlier change.tick (omega (arith, less)),
      );
    }

-- so many ticks after a change, if the rate stays until then
pub reached : (link : ChangingLink) (amount from rate sent ticks : ℕ)
    → ((tick : ℕ) → from ≤ tick → tick ≤ from + ticks → sent_before link tick ≡ sent + rate * (tick - from))
    → ((earlier : ℕ) → earlier < from → sent_before link earlier < amount) → sent ≤ amount
    → amount - sent ≤ ticks * rate → ticks * rate < amount - sent + rate → IsSentBy link amount (from + ticks)
reached link amount from rate sent ticks here before some enough least =
    let last : from + ticks - from ≡ ticks = omega arith in
    record {
      sent = omega (
        arith,
        here (from + ticks) (omega arith) (omega arith),
        ap (λ (n : ℕ). rate * n) last,
        some,
        enough,
      );
      first = λ earlier is. elim (cases_lt earlier (from + ticks)) [
        | inr late ↦ late
        | inl less ↦ absurd (elim (cases_lt earlier from) [
          | inl early ↦ omega (arith, is, before earlier early)
          | inr late ↦
              let ahead : earlier - from + 1 ≤ ticks = omega (arith, less, late) in
              omega (
                arith,
                is,
                here earlier late (omega (arith, less)),
                mul-le-mul_left rate ahead,
                times_sum rate (earlier - from) 1,
                least,
                some,
              )
        ])
      ];
    }

-- so many ticks are not more than those until the next change
pub within_change : (rate ticks more rest : ℕ) → 1 ≤ rate → rest ≤ rate * more → ticks * rate < rest + rate
    → ticks ≤ more
within_change rate ticks more rest some enough least = elim (cases_lt more ticks) [
  | inr within ↦ within
  | inl less ↦
      let ahead : more + 1 ≤ ticks = omega (arith, less) in
      absurd (omega (arith, mul-le-mul_left rate ahead, times_sum rate more 1, enough, least))
]

-- ---- the ends of the walk

rounded : (a b q : ℕ) → 1 ≤ b → q ≡ a / b + min 1 (a % b) → (a ≤ q * b) × (q * b < a + b)
rounded a b q some is = rw is (div_ceil_times a b (omega (arith, some)))

pub way_next : (link : ChangingLink) (amount from rate sent i : ℕ) (d : LinkChange) → i < length link.changes
    → IsWay link amount from rate sent (drop i link.changes)
    → sent + rate * ((get_or link.changes i d).tick - from) < amount
    → IsWay link amount (get_or link.changes i d).tick (get_or link.changes i d).rate
    (sent + rate * ((get_or link.changes i d).tick - from)) (drop (i + 1) link.changes)
way_next link amount from rate sent i d low way more =
    way_goes_on link amount from rate sent (get_or link.changes i d) (drop (i + 1) link.changes)
    (subst (λ (l : List LinkChange). IsWay link amount from rate sent l) (left_at link.changes i d low) way) more

pub reached_here : (link : ChangingLink) (amount from rate sent i ticks : ℕ) (d : LinkChange)
    → i < length link.changes → IsWay link amount from rate sent (drop i link.changes)
    → amount ≤ sent + rate * ((get_or link.changes i d).tick - from)
    → ticks ≡ (amount - sent) / rate + min 1 ((amount - sent) % rate) → IsSentBy link amount (from + ticks)
reached_here link amount from rate sent i ticks d low way few is =
    let change = get_or link.changes i d in
    let here = subst (λ (l : List LinkChange). IsWay link amount from rate sent l) (left_at link.changes i d low) way in
    let bounds = rounded (amount - sent) rate ticks here.at.low is in
    let order = here.at.changes.0.order in
    let until = within_change rate ticks (change.tick - from) (amount - sent) here.at.low
    (omega (arith, few, here.enough)) bounds.1 in
    reached link amount from rate sent ticks
    (λ tick late early. sent_here link amount from rate sent change (drop (i + 1) link.changes) here tick late
    (omega (arith, early, until, order))) here.before here.enough bounds.0 bounds.1

pub reached_last : (link : ChangingLink) (amount from rate sent i ticks : ℕ) → length link.changes ≤ i
    → IsWay link amount from rate sent (drop i link.changes)
    → ticks ≡ (amount - sent) / rate + min 1 ((amount - sent) % rate) → IsSentBy link amount (from + ticks)
reached_last link amount from rate sent i ticks high way is =
    let none = drop_of_length-le link.changes high in
    let last = subst (λ (l : List LinkChange). IsWay link amount from rate sent l) none way in
    let bounds = rounded (amount - sent) rate ticks last.at.low is in
    reached link amount from rate sent ticks (λ tick late early. last.rest tick late) last.before last.enough bounds.0
    bounds.1
