-- The row of round numbers 1, 2, 5, 10, 20, 50 and so on, up to where a span is reached.
use Rattle.std.proofs.Common.{◌≡◌, ℕ, ◌*◌, ◌/◌, ◌^◌, ◌<◌, ◌≤◌, arith, refl, ap, ◌∙◌, sym, subst, suc, inl, inr}
use Rattle.std.specs.Prelude.{◌⊎◌}
use Rattle.std.proofs.Math.Nat.{div-lt_iff_lt-mul, div-mul-le_self, mul-le-mul_right}
use Rattle.std.proofs.Math.Nat.{one-le-pow, pow-le-pow_right, pow-suc, pow-succ'}
use Rattle.std.proofs.lemmas.Bool.{cases_order}
use Rattle.report_pictures.specs.Axes.{IsRound, IsStep}

-- A unit is a power of 10. If it isn't 1, half of it still fits into the span more than six times.
pub record IsReached (span unit : ℕ) : Type 0 where
  pub positive : 0 < unit
  pub power : (k : ℕ) × (unit ≡ 10 ^ k)
  pub passed : (unit ≡ 1) ⊎ (35 * unit ≤ 10 * span)

-- a smaller power of 10 is a tenth of this one at most
tenth : (j k : ℕ) → j < k → 10 * 10 ^ j ≤ 10 ^ k
tenth j k low = omega (arith, pow-le-pow_right {n = 10} (omega arith) low, pow-succ' 10 j)

-- two powers of 10 are the same, or one is a tenth of the other at most
abbrev AreApart : ℕ → ℕ → Type 0
AreApart p unit = (p ≡ unit) ⊎ ((10 * p ≤ unit) ⊎ (10 * unit ≤ p))

apart : (j k : ℕ) → AreApart (10 ^ j) (10 ^ k)
apart j k = elim (cases_order j k) [
  | inl same ↦ inl (ap (λ i. 10 ^ i) same)
  | inr (inl less) ↦ inr (inl (tenth j k less))
  | inr (inr more) ↦ inr (inr (tenth k j more))
]

-- one of the round numbers of a power of 10
abbrev pub IsTimes : ℕ → ℕ → Type 0
IsTimes p n = (n ≡ p) ⊎ ((n ≡ 2 * p) ⊎ (n ≡ 5 * p))

-- a round number that fits into the span no more than six times is none before the unit
no_earlier : (span unit p n : ℕ) → (unit ≡ 1) ⊎ (35 * unit ≤ 10 * span) → 1 ≤ p → IsTimes p n → span < 7 * n
    → AreApart p unit → (n ≡ unit) ⊎ ((n ≡ 2 * unit) ⊎ (5 * unit ≤ n))
no_earlier span unit p n passed positive times few order = grind arith

-- how often a number fits into a span, as a product
within : (span n m : ℕ) → 0 < n → span / n < m → span < m * n
within span n m positive few = (div-lt_iff_lt-mul {k = n} {x = span} {y = m} positive).0 few

few_times : (span n : ℕ) → 0 < n → span < 7 * n → span / n ≤ 6
few_times span n positive product =
    omega (arith, (div-lt_iff_lt-mul {k = n} {x = span} {y = 7} positive).1 product)

beyond : (span n m : ℕ) → m ≤ span / n → m * n ≤ span
beyond span n m many = omega (arith, div-mul-le_self span n, mul-le-mul_right n many)

-- a round number from the unit on that fits no more than six times is no less than the step
no_less : (span unit step n : ℕ) → IsTimes unit step → (step ≡ 2 * unit → 7 * unit ≤ span)
    → (step ≡ 5 * unit → 14 * unit ≤ span) → (n ≡ unit) ⊎ ((n ≡ 2 * unit) ⊎ (5 * unit ≤ n)) → span < 7 * n → step ≤ n
no_less span unit step n times twice five later product = grind arith

no_later : (span unit step : ℕ) → IsReached span unit → IsTimes unit step → (step ≡ 2 * unit → 7 * unit ≤ span)
    → (step ≡ 5 * unit → 14 * unit ≤ span) → (n : ℕ) → IsRound n → span / n ≤ 6 → step ≤ n
no_later span unit step reached times twice five n (j, round) fits =
    let positive : 1 ≤ 10 ^ j = one-le-pow j 10 (omega arith) in
    let order = subst (AreApart (10 ^ j)) (sym reached.power.1) (apart j reached.power.0) in
    let product = within span n 7 (grind (arith, positive, round)) (omega (arith, fits)) in
    let from_unit = no_earlier span unit (10 ^ j) n reached.passed positive round product order in
    no_less span unit step n times twice five from_unit product

-- a round number of the unit is the step if it is the first that fits no more than six times
is_step : (span unit step : ℕ) → IsReached span unit → IsTimes unit step → span < 7 * step
    → (step ≡ 2 * unit → 7 * unit ≤ span) → (step ≡ 5 * unit → 14 * unit ≤ span) → IsStep span step
is_step span unit step reached times few twice five = record {
  round = (reached.power.0, subst (λ p. IsTimes p step) reached.power.1 times);
  few = few_times span step (grind (arith, times, reached.positive)) few;
  least = no_later span unit step reached times twice five;
}

pub unit_is_step : (span unit : ℕ) → IsReached span unit → span / unit ≤ 6 → IsStep span unit
unit_is_step span unit reached few = is_step span unit unit reached (inl refl)
    (within span unit 7 reached.positive (omega (arith, few)))
    (λ same. omega (arith, same, reached.positive))
    (λ same. omega (arith, same, reached.positive))

pub twice_is_step : (span unit : ℕ) → IsReached span unit → 6 < span / unit → span / unit / 2 ≤ 6
    → IsStep span (2 * unit)
twice_is_step span unit reached many few = is_step span unit (2 * unit) reached (inr (inl refl))
    (omega (arith, within span unit 14 reached.positive (omega (arith, few))))
    (λ same. beyond span unit 7 (omega (arith, many)))
    (λ same. omega (arith, same, reached.positive))

pub five_is_step : (span unit : ℕ) → IsReached span unit → 6 < span / unit / 2 → span / unit / 5 ≤ 6
    → IsStep span (5 * unit)
five_is_step span unit reached many few = is_step span unit (5 * unit) reached (inr (inr refl))
    (omega (arith, within span unit 35 reached.positive (omega (arith, few))))
    (λ same. omega (arith, same, reached.positive))
    (λ same. beyond span unit 14 (omega (arith, many)))

-- ten times the unit is the next, if five times the unit fits more than six times
pub next_reached : (span unit : ℕ) → IsReached span unit → 6 < span / unit / 5 → IsReached span (unit * 10)
next_reached span unit reached many = record {
  positive = omega (arith, reached.positive);
  power = (suc reached.power.0, ap (λ u. u * 10) reached.power.1 ∙ sym (pow-suc 10 reached.power.0));
  passed = inr (omega (arith, beyond span unit 35 (omega (arith, many))));
}
