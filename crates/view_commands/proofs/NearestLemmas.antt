-- Rates and times that are taken lie between two of them.
use Rattle.std.proofs.Common.{◌≡◌, ℕ, suc, zero, ◌+◌, ◌-◌, ◌*◌, ◌/◌, ◌<◌, ◌≤◌, ◌^◌, refl, sym, ap, subst, ◌∙◌, arith}
use Rattle.std.proofs.Math.Nat.{div-le_self, div-lt_iff_lt-mul, div-mul-le_self, le-div_iff_mul-le, mul-le-mul}
use Rattle.std.proofs.Math.Nat.{mul-le-mul_right, mul-pos, mul_assoc}
use Rattle.std.specs.Prelude.{◌↔◌, max, min}
use Rattle.predictions.specs.Units.Limits.{link_rate, threshold_for}
use Rattle.predictions.specs.Units.Scales.{IsScale, TraceScale, rate_of, ticks_in}
use Rattle.predictions.specs.declared.units.limits.Limits.{Limits}
use Rattle.view_commands.specs.Nearest.{HasDowntime, HasRate, IsNearest, IsWithin}

-- of what is taken just between two numbers, the nearest
pub nearest_between : (IsTaken : ℕ → Type 0) (least most asked n : ℕ) → least ≤ most
    → ((k : ℕ) → IsTaken k ↔ IsWithin least most k) → n ≡ max least (min asked most) → IsNearest IsTaken asked n
nearest_between IsTaken least most asked n ordered taken is = record {
  is_taken = (taken n).1 (omega (arith, is), omega (arith, is));
  none_nearer = λ k holds.
      let between = (taken k).0 holds in
      omega (arith, is, between.0, between.1);
}

-- a scale's parts: a byte a second moves so many of the parts of a page in 1,000 ticks
abbrev pub byte_parts : TraceScale → ℕ
byte_parts scale = scale.tick * scale.sampled

abbrev pub page_parts : TraceScale → ℕ
page_parts scale = 1_000 * scale.page * scale.guest

pub rate_is : (scale : TraceScale) (n : ℕ) → rate_of scale n ≡ n * byte_parts scale / page_parts scale
rate_is scale n = ap (λ (x : ℕ). x / page_parts scale) (mul_assoc n scale.tick scale.sampled)

pub byte_pos : (scale : TraceScale) → IsScale scale → 0 < byte_parts scale
byte_pos scale s = mul-pos {m = scale.tick} {n = scale.sampled} (omega (arith, s.tick_low))
    (omega (arith, s.sampled_low))

pub page_pos : (scale : TraceScale) → IsScale scale → 0 < page_parts scale
page_pos scale s = mul-pos {m = 1_000 * scale.page} {n = scale.guest} (omega (arith, s.page_low))
    (omega (arith, s.sampled_low, s.sampled_high))

pub byte_high : (scale : TraceScale) → IsScale scale → byte_parts scale ≤ 1_000_000 * scale.guest
byte_high scale s = mul-le-mul {n₁ = scale.tick} {m₁ = scale.sampled} s.tick_high s.sampled_high

pub page_low : (scale : TraceScale) → IsScale scale → scale.guest ≤ page_parts scale
page_low scale s = omega (
  arith,
  mul-le-mul_right {m = 1} {n = 1_000 * scale.page} scale.guest
      (omega (arith, s.page_low)),
)

pub page_high : (scale : TraceScale) → IsScale scale → page_parts scale ≤ 4_096_000 * 4_294_967_296
page_high scale s =
    mul-le-mul {n₁ = 1_000 * scale.page} {m₁ = scale.guest} {n₂ = 4_096_000} {m₂ = 4_294_967_296}
    (omega (arith, s.page_high)) (omega (arith, s.guest_high))

-- the least that reaches a rate of 1, for parts `k` of a byte and `m` of a page

least_up : (k m n : ℕ) → 0 < k → 0 < m → (m + k - 1) / k ≤ n → 1 ≤ n * k / m
least_up k m n some page low =
    let above : m + k - 1 < (n + 1) * k =
    (div-lt_iff_lt-mul {k = k} {x = m + k - 1} {y = n + 1} some).0 (omega (arith, low)) in
    (le-div_iff_mul-le {k = m} {x = 1} {y = n * k} page).1 (omega (arith, above))

least_down : (k m n : ℕ) → 0 < k → 0 < m → 1 ≤ n * k / m → (m + k - 1) / k ≤ n
least_down k m n some page one =
    let enough : 1 * m ≤ n * k = (le-div_iff_mul-le {k = m} {x = 1} {y = n * k} page).0 one in
    let under : (m + k - 1) / k < n + 1 =
    (div-lt_iff_lt-mul {k = k} {x = m + k - 1} {y = n + 1} some).1 (omega (arith, enough, some)) in
    omega (arith, under)

pub least_iff : (scale : TraceScale) (n : ℕ) → IsScale scale
    → ((page_parts scale + byte_parts scale - 1) / byte_parts scale ≤ n) ↔ (1 ≤ rate_of scale n)
least_iff scale n s = (
  λ low. subst (λ (x : ℕ). 1 ≤ x) (sym (rate_is scale n))
      (least_up (byte_parts scale) (page_parts scale) n (byte_pos scale s) (page_pos scale s) low),
  λ one. least_down (byte_parts scale) (page_parts scale) n (byte_pos scale s) (page_pos scale s)
      (subst (λ (x : ℕ). 1 ≤ x) (rate_is scale n) one),
)

pub least_taken : (scale : TraceScale) → IsScale scale
    → rate_of scale ((page_parts scale + byte_parts scale - 1) / byte_parts scale) ≤ 1_000_000
least_taken scale s =
    let least = (page_parts scale + byte_parts scale - 1) / byte_parts scale in
    let under : least * byte_parts scale ≤ page_parts scale + byte_parts scale - 1 =
    div-mul-le_self (page_parts scale + byte_parts scale - 1) (byte_parts scale) in
    let few : least * byte_parts scale / page_parts scale < 1_000_001 =
    (div-lt_iff_lt-mul {k = page_parts scale} {x = least * byte_parts scale} {y = 1_000_001} (page_pos scale s)).1
    (omega (arith, under, byte_high scale s, page_low scale s, page_pos scale s)) in
    omega (arith, few, rate_is scale least)

pub least_small : (scale : TraceScale) → IsScale scale
    → (page_parts scale + byte_parts scale - 1) / byte_parts scale < 2 ^ 64
least_small scale s = omega (
  arith,
  div-le_self (page_parts scale + byte_parts scale - 1) (byte_parts scale),
  byte_high scale s,
  page_high scale s,
  s.guest_high,
)

-- the most that stays at a rate

pub most_iff : (scale : TraceScale) (rate n : ℕ) → IsScale scale
    → (n ≤ ((rate + 1) * page_parts scale - 1) / byte_parts scale) ↔ (rate_of scale n ≤ rate)
most_iff scale rate n s =
    let bytes = le-div_iff_mul-le {k = byte_parts scale} {x = n} {y = (rate + 1) * page_parts scale - 1}
    (byte_pos scale s) in
    let pages = div-lt_iff_lt-mul {k = page_parts scale} {x = n * byte_parts scale} {y = rate + 1} (page_pos scale s) in
    let whole : 0 < (rate + 1) * page_parts scale = mul-pos (omega arith) (page_pos scale s) in (
      λ low. omega (arith, rate_is scale n, pages.1 (omega (arith, bytes.0 low, whole))),
      λ few. bytes.1 (omega (arith, pages.0 (omega (arith, rate_is scale n, few)), whole)),
    )

-- the downtimes in which no more pages go than may be left

-- so many ticks at a rate move fewer pages than make a threshold of 65,536
ticks_iff : (ticks rate : ℕ) → 0 < rate → (ticks ≤ 65_535_999 / rate) ↔ (threshold_for ticks rate ≤ 65_536)
ticks_iff ticks rate some =
    let whole = le-div_iff_mul-le {k = rate} {x = ticks} {y = 65_535_999} some in
    let parts = div-lt_iff_lt-mul {k = 1_000} {x = ticks * rate} {y = 65_536} (omega arith) in (
      λ low. omega (arith, parts.1 (omega (arith, whole.0 low))),
      λ few. whole.1 (omega (arith, parts.0 (omega (arith, few)))),
    )

time_iff : (scale : TraceScale) (time most : ℕ) → 0 < scale.tick
    → (time ≤ (most + 1) * scale.tick - 1) ↔ (ticks_in scale time ≤ most)
time_iff scale time most some =
    let ticks = div-lt_iff_lt-mul {k = scale.tick} {x = time} {y = most + 1} some in
    let whole : 0 < (most + 1) * scale.tick = mul-pos (omega arith) some in (
      λ low. omega (arith, ticks.1 (omega (arith, low, whole))),
      λ few. omega (arith, ticks.0 (omega (arith, few))),
    )

pub downtime_iff : (scale : TraceScale) (limits : Limits) (time : ℕ) → 0 < scale.tick → 0 < link_rate scale limits
    → HasDowntime scale limits time
    ↔ IsWithin limits.reserve
    (limits.reserve + ((65_535_999 / link_rate scale limits + 1) * scale.tick - 1)) time
downtime_iff scale limits time some rate =
    let most = 65_535_999 / link_rate scale limits in
    let ticks = ticks_iff (ticks_in scale (time - limits.reserve)) (link_rate scale limits) rate in
    let times = time_iff scale (time - limits.reserve) most some in (
      λ has. (has.0, omega (arith, has.0, times.1 (ticks.1 has.1))),
      λ within. (within.0, ticks.0 (times.0 (omega (arith, within.0, within.1)))),
    )

-- rates that lie between two

pub nearest_rate : (scale : TraceScale) (rate least most asked n : ℕ)
    → ((k : ℕ) → (least ≤ k) ↔ (1 ≤ rate_of scale k)) → ((k : ℕ) → (k ≤ most) ↔ (rate_of scale k ≤ rate))
    → least ≤ most → n ≡ max least (min asked most) → IsNearest (HasRate scale rate) asked n
nearest_rate scale rate least most asked n low high ordered is =
    nearest_between (HasRate scale rate) least most asked n ordered
    (λ k. (λ has. ((low k).1 has.0, (high k).1 has.1), λ within. ((low k).0 within.0, (high k).0 within.1))) is
