-- What a link sends from a tick on: nothing before that, more with each tick, and no more than at its full rate.
use Rattle.std.proofs.Common.{◌≡◌, ◌∙◌, ℕ, ◌+◌, ◌-◌, ◌*◌, ◌<◌, ◌≤◌, min, List, [], ◌∷◌, sym, ap, inl, inr, arith}
use Rattle.std.proofs.Math.Nat.{mul-le-mul_left, mul-le-mul_right, mul-sub}
use Rattle.std.proofs.lemmas.Bool.{cases_lt}
use Rattle.link_clock.specs.Links.{sent_from}
use Rattle.link_clock.specs.declared.link.LinkChange.{LinkChange}
use Rattle.link_clock.proofs.Changes.{AreChanges}

pub times_sum : (k a b : ℕ) → k * (a + b) ≡ k * a + k * b
times_sum k a b =
    let less : a + b - b ≡ a = omega arith in
    let within : b ≤ a + b = omega arith in
    omega (arith, mul-sub k (a + b) b, ap (λ (n : ℕ). k * n) less, mul-le-mul_left k within)

pub times_less : (k m n : ℕ) → 1 ≤ k → m < n → k * m < k * n
times_less k m n some less =
    let more : m + 1 ≤ n = omega (arith, less) in
    omega (arith, times_sum k m 1, mul-le-mul_left k more, some)

times_none : (k n : ℕ) → n ≡ 0 → k * n ≡ 0
times_none k n none = ap (λ (m : ℕ). k * m) none ∙ omega arith

pub sent_none : (full rate from : ℕ) (changes : List LinkChange) (tick : ℕ) → AreChanges full from changes
    → tick ≤ from → sent_from from rate changes tick ≡ 0
sent_none full rate from [] tick are early = times_none rate (tick - from) (omega (arith, early))
sent_none full rate from (change ∷ later) tick are early =
    let here = times_none rate (min tick change.tick - from) (omega (arith, early)) in
    let rest = sent_none full change.rate change.tick later tick are.1 (omega (arith, early, are.0.order)) in
    omega (arith, here, rest)

pub sent_later : (rate from : ℕ) (changes : List LinkChange) (tick later_tick : ℕ) → tick ≤ later_tick
    → sent_from from rate changes tick ≤ sent_from from rate changes later_tick
sent_later rate from [] tick later_tick order =
    let ticks : tick - from ≤ later_tick - from = omega (arith, order) in
    mul-le-mul_left rate ticks
sent_later rate from (change ∷ later) tick later_tick order =
    let ticks : min tick change.tick - from ≤ min later_tick change.tick - from = omega (arith, order) in
    omega (arith, mul-le-mul_left rate ticks, sent_later change.rate change.tick later tick later_tick order)

pub sent_bound : (full rate from : ℕ) (changes : List LinkChange) (tick : ℕ) → AreChanges full from changes
    → rate ≤ full → sent_from from rate changes tick ≤ full * (tick - from)
sent_bound full rate from [] tick are within = mul-le-mul_right (tick - from) within
sent_bound full rate from (change ∷ later) tick are within =
    let here = min tick change.tick - from in
    let split : here + (tick - change.tick) ≡ tick - from = omega (arith, are.0.order) in
    let all = sym (times_sum full here (tick - change.tick)) ∙ ap (λ (n : ℕ). full * n) split in
    omega (
      arith,
      mul-le-mul_right here within,
      sent_bound full change.rate change.tick later tick are.1 are.0.within,
      all,
    )

pub sent_more : (full rate from : ℕ) (changes : List LinkChange) (tick later_tick : ℕ)
    → AreChanges full from changes → 1 ≤ rate → from ≤ tick → tick < later_tick
    → sent_from from rate changes tick < sent_from from rate changes later_tick
sent_more full rate from [] tick later_tick are some late order =
    times_less rate (tick - from) (later_tick - from) some (omega (arith, late, order))
sent_more full rate from (change ∷ later) tick later_tick are some late order =
    elim (cases_lt tick change.tick) [
      | inl before ↦ omega (
        arith,
        times_less rate (min tick change.tick - from) (min later_tick change.tick - from)
            some (omega (arith, before, late, order)),
        sent_later change.rate change.tick later tick later_tick (omega (arith, order)),
      )
      | inr after ↦
          let ticks : min tick change.tick - from ≤ min later_tick change.tick - from = omega (arith, order) in
          omega (
            arith,
            mul-le-mul_left rate ticks,
            sent_more full change.rate change.tick later tick later_tick are.1 are.0.some after order,
          )
    ]
