use Rattle.std.proofs.Common.{◌≡◌, ℕ, ◌+◌, ◌*◌, ◌<◌, ◌≤◌, ◌^◌, List, ◌++◌, length, ap, arith, refl, subst, sym}
use Rattle.std.specs.Str.Parse.{digits_value}
use Rattle.view_commands.specs.Decimals.{ArePlaced, IsDigits}
use Rattle.view_commands.proofs.DecimalLemmas.{back_digits, front_digits, joined, placed_value}
use Rattle.view_commands.proofs.QuantityLemmas.{if_none}
use Rattle.view_commands.proofs.decimals.placed.Goals as goal

-- nothing is placed so, whatever it would be
abbrev Never : List ℕ → List ℕ → Type 0
Never whole fraction = (digits places : ℕ) → 0 < length fraction → ¬ ArePlaced whole fraction digits places

no_front : (whole fraction : List ℕ) → ((n : ℕ) → ¬ IsDigits whole n) → Never whole fraction
no_front whole fraction never = λ digits places some p. never (digits_value 10 whole)
    (front_digits whole fraction digits places p)

no_back : (whole fraction : List ℕ) → ((n : ℕ) → ¬ IsDigits fraction n) → Never whole fraction
no_back whole fraction never = λ digits places some p. never (digits_value 10 fraction)
    (back_digits whole fraction digits places some p)

-- the digits make too great a number
too_long : (whole fraction : List ℕ) (m power : ℕ) → IsDigits whole m → power ≡ 10 ^ length fraction
    → ¬ (m * power < 2 ^ 64) → Never whole fraction
too_long whole fraction m power front is high = λ digits places some p.
    let value = placed_value whole fraction digits places m p front in
    let same : m * power ≡ m * 10 ^ length fraction = ap (λ (x : ℕ). m * x) is in
    high (omega (arith, value, same, p.all.fits))

too_great : (whole fraction : List ℕ) (m n power shifted : ℕ) → IsDigits whole m → IsDigits fraction n
    → power ≡ 10 ^ length fraction → shifted ≡ m * power → ¬ (shifted + n < 2 ^ 64) → Never whole fraction
too_great whole fraction m n power shifted front back is by high = λ digits places some p.
    let value = placed_value whole fraction digits places m p front in
    let same : m * power ≡ m * 10 ^ length fraction = ap (λ (x : ℕ). m * x) is in
    high (omega (arith, value, same, by, back.value, p.all.fits))

placed_digits : (whole fraction : List ℕ) (m n power shifted digits : ℕ) → IsDigits whole m → IsDigits fraction n
    → power ≡ 10 ^ length fraction → shifted ≡ m * power → digits ≡ shifted + n → digits < 2 ^ 64
    → length fraction ≤ 6 → (0 < length fraction) × ArePlaced whole fraction digits (length fraction)
placed_digits whole fraction m n power shifted digits front back is by sum fits few =
    let same : m * power ≡ m * 10 ^ length fraction = ap (λ (x : ℕ). m * x) is in
    let all : IsDigits (whole ++ fraction) (m * 10 ^ length fraction + n) =
    joined whole fraction m n front back (omega (arith, same, by, sum, fits)) in
    let total : m * 10 ^ length fraction + n ≡ digits = omega (arith, same, by, sum) in (
      back.digits.0,
      record {
        some = front.digits.0;
        places_are = refl;
        few = few;
        all = subst (IsDigits (whole ++ fraction)) total all;
      },
    )

pub returns-in_err-digits_of-clause-none : goal.returns-in_err-digits_of-clause-none
returns-in_err-digits_of-clause-none c = if_none c.from_residual.result (Never c.args.whole.now c.args.fraction.now)
    (no_front c.args.whole.now c.args.fraction.now c.in_err-digits_of.ensures.none)

pub returns-in_err-shifted-clause-none : goal.returns-in_err-shifted-clause-none
returns-in_err-shifted-clause-none c =
    if_none c.from_residual-in_err-shifted.result (Never c.args.whole.now c.args.fraction.now)
    (too_long c.args.whole.now c.args.fraction.now c.in_ok-digits_of.field-0 c.pow.result
    c.in_ok-digits_of.ensures.some c.pow.ensures c.in_err-shifted.ensures)

pub returns-in_err-digits_of-2-clause-none : goal.returns-in_err-digits_of-2-clause-none
returns-in_err-digits_of-2-clause-none c =
    if_none c.from_residual-in_err-digits_of-2.result (Never c.args.whole.now c.args.fraction.now)
    (no_back c.args.whole.now c.args.fraction.now c.in_err-digits_of-2.ensures.none)

pub returns-in_err-digits-clause-none : goal.returns-in_err-digits-clause-none
returns-in_err-digits-clause-none c =
    if_none c.from_residual-in_err-digits.result (Never c.args.whole.now c.args.fraction.now)
    (too_great c.args.whole.now c.args.fraction.now c.in_ok-digits_of.field-0 c.in_ok-digits_of-2.field-0 c.pow.result
    c.in_ok-shifted.shifted c.in_ok-digits_of.ensures.some c.in_ok-digits_of-2.ensures.some c.pow.ensures
    c.in_ok-shifted.ensures.1 c.in_err-digits.ensures)

pub returns-clause-some : goal.returns-clause-some
returns-clause-some c =
    placed_digits c.args.whole.now c.args.fraction.now c.in_ok-digits_of.field-0 c.in_ok-digits_of-2.field-0
    c.pow.result c.in_ok-shifted.shifted c.in_ok-digits.digits c.in_ok-digits_of.ensures.some
    c.in_ok-digits_of-2.ensures.some c.pow.ensures c.in_ok-shifted.ensures.1 c.in_ok-digits.ensures.1
    (subst (λ (x : ℕ). x < 2 ^ 64) (sym c.in_ok-digits.ensures.1) c.in_ok-digits.ensures.0)
    (omega (arith, c.if-places-gt-MOST_PLACES.false))
