-- The clock of a link: it goes on with the ticks, and no faster. So touches keep their order by it.
use Rattle.std.proofs.Common.{◌≡◌, ◌∙◌, ℕ, ◌+◌, ◌-◌, ◌*◌, ◌/◌, ◌<◌, ◌≤◌, ◌^◌, min, true, false, ltb, List}
use Rattle.std.proofs.Common.{[], get_or, length, map, sym, ap, inl, inr, arith}
use Rattle.std.proofs.Math.Nat.{div-le_of_le-mul, le-div_iff_mul-le, mul-div-le, mul-div_cancel_left}
use Rattle.std.proofs.Math.Nat.{mul-le-mul_left}
use Rattle.std.proofs.lemmas.Bool.{cases_lt, le-ltb, lt-ltb, ltb-false, ltb-true}
use Rattle.std.proofs.lemmas.List.{get_or-map, length-map}
use Rattle.migration_model.specs.Touches.{AreTouches, ArePlacedBefore, GuestTouch, no_touch}
use Rattle.link_clock.specs.Links.{ChangingLink, IsSentBy, clock_at, link_with, sent_before, touch_by}
use Rattle.link_clock.specs.Links.{touches_by}
use Rattle.link_clock.proofs.Changes.{IsSound}
use Rattle.link_clock.proofs.Sending.{sent_bound, sent_later}

-- the clock of a link whose rate stays
pub clock_stays : (rate tick : ℕ) → 1 ≤ rate → clock_at (link_with rate []) tick ≡ tick
clock_stays rate tick some =
    let ticks : tick - 0 ≡ tick = omega arith in
    ap (λ (n : ℕ). rate * n / rate) ticks ∙ mul-div_cancel_left tick (omega (arith, some))

module _ (link : ChangingLink) (is : IsSound link) where
  -- so much of the clock is there once so much is sent
  pub shown : (clock tick : ℕ) → link.rate * clock ≤ sent_before link tick → clock ≤ clock_at link tick
  shown clock tick sent = (le-div_iff_mul-le is.low).1 (omega (arith, sent))

  pub behind : (clock tick : ℕ) → clock ≤ clock_at link tick → link.rate * clock ≤ sent_before link tick
  behind clock tick is_shown =
      let all = mul-le-mul_left link.rate is_shown in
      omega (arith, all, mul-div-le (sent_before link tick) link.rate)

  pub clock_later : (tick later : ℕ) → tick ≤ later → clock_at link tick ≤ clock_at link later
  clock_later tick later order =
      let sent = behind (clock_at link tick) tick (omega arith) in
      shown (clock_at link tick) later (omega (arith, sent, sent_later link.rate 0 link.changes tick later order))

  pub clock_early : (tick : ℕ) → clock_at link tick ≤ tick
  clock_early tick =
      let bound = sent_bound link.rate link.rate 0 link.changes tick is.changes (omega arith) in
      let ticks : link.rate * (tick - 0) ≡ link.rate * tick = ap (λ (n : ℕ). link.rate * n) (omega arith) in
      div-le_of_le-mul link.rate (omega (arith, bound, ticks))

  touch_at : (touches : List GuestTouch) (k : ℕ) (d : GuestTouch) → k < length touches
      → get_or (touches_by link touches) k d ≡ touch_by link (get_or touches k no_touch)
  touch_at touches k d low = get_or-map (touch_by link) touches k no_touch d low

  pub touches_fit : (pages : ℕ) (touches : List GuestTouch) → AreTouches pages touches
      → AreTouches pages (touches_by link touches)
  touches_fit pages touches are =
      let len : length (touches_by link touches) ≡ length touches = length-map touches (touch_by link) in
      record {
        few = omega (arith, len, are.few);
        each = λ i d low.
            let inside : i < length touches = omega (arith, len) in
            let fit = are.each i no_touch inside in
            rw (touch_at touches i d inside) (record {
              tick = omega (arith, fit.tick, clock_early (get_or touches i no_touch).tick);
              page = fit.page;
            });
        in_order = λ i j d le low.
            let inside : j < length touches = omega (arith, len) in
            rw (touch_at touches i d (omega arith), touch_at touches j d inside)
            (clock_later (get_or touches i no_touch).tick (get_or touches j no_touch).tick
            (are.in_order i j no_touch le inside));
      }

  -- a touch before the first tick at which the clock shows so much is before that by the clock, and none other is
  before_by : (clock first tick : ℕ) → IsSentBy link (link.rate * min clock (2 ^ 43)) first → tick < first
      → clock_at link tick < clock
  before_by clock first tick by less = elim (cases_lt (clock_at link tick) clock) [
    | inl before ↦ before
    | inr late ↦
        let sent = behind (min clock (2 ^ 43)) tick (omega (arith, late)) in
        let after = by.first tick sent in
        absurd (omega (arith, less, after))
  ]

  after_by : (clock first tick : ℕ) → IsSentBy link (link.rate * min clock (2 ^ 43)) first → first ≤ tick
      → tick < 2 ^ 40 → clock ≤ clock_at link tick
  after_by clock first tick by late early =
      let sent = sent_later link.rate 0 link.changes first tick late in
      let there = shown (min clock (2 ^ 43)) tick (omega (arith, by.sent, sent)) in
      omega (arith, there, clock_early tick, early)

  pub point_by : (pages : ℕ) (touches : List GuestTouch) (clock first count : ℕ) → AreTouches pages touches
      → IsSentBy link (link.rate * min clock (2 ^ 43)) first → count ≤ length touches
      → ArePlacedBefore touches first count → ArePlacedBefore (touches_by link touches) clock count
  point_by pages touches clock first count are by bound point =
      let len : length (touches_by link touches) ≡ length touches = length-map touches (touch_by link) in (
        (λ k d low high.
            let inside : k < length touches = omega (arith, high, bound) in
            let touch = get_or touches k no_touch in
            rw (touch_at touches k d inside) (lt-ltb (clock_at link touch.tick) clock
            (before_by clock first touch.tick by (ltb-true touch.tick first (point.0 k no_touch low high))))),
        (λ k d low high.
            let inside : k < length touches = omega (arith, len, high) in
            let touch = get_or touches k no_touch in
            rw (touch_at touches k d inside) (le-ltb (clock_at link touch.tick) clock
            (after_by clock first touch.tick by (ltb-false touch.tick first (point.1 k no_touch low inside))
            (are.each k no_touch inside).tick))),
      )
