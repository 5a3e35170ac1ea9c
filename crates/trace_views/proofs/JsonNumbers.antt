-- Decimal digits, with or without a fraction after them, are a JSON number.
use Rattle.std.proofs.Common.{◌≡◌, ℕ, zero, suc, ◌+◌, ◌/◌, ◌%◌, ◌^◌, ◌<◌, ◌≤◌, Bool, false, cond, ◌==◌, List, [], ◌∷◌}
use Rattle.std.proofs.Common.{◌++◌, length, drop, get_or, Option, Some, option_and_then, decimal, refl, ap, subst, sym}
use Rattle.std.proofs.Common.{◌∙◌, arith}
use Rattle.std.specs.Prelude.{⊤}
use Rattle.std.proofs.lemmas.Bool.{ne_eqb, le-leb, and_from}
use Rattle.std.proofs.lemmas.List.{append-nil}
use Rattle.std.proofs.lemmas.Fmt.{decimal_by_steps_wide, decimal_digit, decimal_is_IsNumeral_wide}
use Rattle.std.proofs.lemmas.Str.Parse.{digit_at}
use Rattle.std.specs.List.{prefix_len}
use Rattle.std.specs.Char.{is_ascii_digit}
use Rattle.json.specs.Word.{head, after_digits, after_exponent, after_fraction, after_number, after_whole}
use Rattle.json.specs.Print.{IsNumber}
use Rattle.trace_views.specs.Json.{millionths_text, six_digits}

-- each of these is a digit
abbrev AreDigits : List ℕ → Type 0
AreDigits [] = ⊤
AreDigits (d ∷ ds) = (48 ≤ d) × (d ≤ 57) × AreDigits ds

are_digits : (ds : List ℕ) → ((i : ℕ) → i < length ds → (48 ≤ get_or ds i 0) × (get_or ds i 0 ≤ 57)) → AreDigits ds
are_digits [] each = tt
are_digits (d ∷ ds) each = (
  (each 0 (omega arith)).0,
  (each 0 (omega arith)).1,
  are_digits ds (λ i low. each (suc i) (omega arith)),
)

-- digits in front of a text that does not begin with one
digits_in_front : (ds rest : List ℕ) → AreDigits ds → prefix_len is_ascii_digit rest ≡ 0
    → prefix_len is_ascii_digit (ds ++ rest) ≡ length ds
digits_in_front [] rest digits none = none
digits_in_front (d ∷ ds) rest digits none =
    let more = digits_in_front ds rest digits.2 none in
    ap (λ (b : Bool). cond b (1 + prefix_len is_ascii_digit (ds ++ rest)) 0)
    (and_from _ _ (le-leb 48 d digits.0) (le-leb d 57 digits.1)) ∙ omega arith

drop_front : (ds rest : List ℕ) → drop (length ds) (ds ++ rest) ≡ rest
drop_front [] rest = refl
drop_front (d ∷ ds) rest = drop_front ds rest

-- how decimal digits begin: with 0 only if they are nothing else
record BeginsWell (n : ℕ) (ds : List ℕ) : Type 0 where
  some : 0 < length ds
  first : 0 < n → 48 < get_or ds 0 0

begins_as : (ds : List ℕ) (x : ℕ) → 0 < length ds → (get_or (ds ++ x ∷ []) 0 0 ≡ get_or ds 0 0)
    × (0 < length (ds ++ x ∷ []))
begins_as [] x low = absurd (omega arith)
begins_as (d ∷ ds) x low = (refl, omega arith)

begins_well : (n : ℕ) → n < 10 ^ 64 → BeginsWell n (decimal n)
begins_well = decimal_by_steps_wide BeginsWell (λ n low. record { some = omega arith; first = λ high. omega arith })
    (λ n ds high before.
    let front = begins_as ds (48 + n % 10) before.some in
    record { some = front.1; first = λ _. omega (arith, before.first (omega arith), front.0) })

-- the whole part of a number, in front of a text that does not begin with a digit
record IsWholePart (ds : List ℕ) : Type 0 where
  behind : (rest : List ℕ) → prefix_len is_ascii_digit rest ≡ 0 → after_whole (ds ++ rest) ≡ Some rest
  no_sign : (rest : List ℕ) → (head (ds ++ rest) == 45) ≡ false

whole_zero : IsWholePart (48 ∷ [])
whole_zero = record { behind = λ rest none. refl; no_sign = λ rest. refl }

whole_above : (ds : List ℕ) → 48 < get_or ds 0 0 → AreDigits ds → IsWholePart ds
whole_above [] first digits = absurd (omega arith)
whole_above (d ∷ ds) first digits = record {
  behind = λ rest none.
      let all = digits_in_front (d ∷ ds) rest digits none in
      rw (ne_eqb d 48 (λ e. omega arith), all, ne_eqb (suc (length ds)) 0 (λ e. omega arith))
      (ap Some (drop_front (d ∷ ds) rest));
  no_sign = λ rest. ne_eqb d 45 (λ e. omega arith);
}

whole_decimal : (n : ℕ) → n < 10 ^ 64 → IsWholePart (decimal n)
whole_decimal zero low = subst IsWholePart (sym (decimal_digit 0 (omega arith))) whole_zero
whole_decimal (suc n) low =
    whole_above (decimal (suc n)) ((begins_well (suc n) low).first (omega arith))
    (are_digits _ (λ i inside. digit_at _ i (decimal_is_IsNumeral_wide (suc n) low).0.1 inside))

number_of : (ds rest : List ℕ) → IsWholePart ds → prefix_len is_ascii_digit rest ≡ 0
    → option_and_then after_exponent (after_fraction rest) ≡ Some [] → IsNumber (ds ++ rest)
unfolding after_number
number_of ds rest whole none fraction =
    ap (λ (b : Bool). option_and_then after_exponent (option_and_then after_fraction
    (after_whole (cond b (drop 1 (ds ++ rest)) (ds ++ rest))))) (whole.no_sign rest)
    ∙ ap (λ (o : Option (List ℕ)). option_and_then after_exponent (option_and_then after_fraction o))
    (whole.behind rest none) ∙ fraction

pub IsNumber-decimal_wide : (n : ℕ) → n < 10 ^ 64 → IsNumber (decimal n)
IsNumber-decimal_wide n low = subst IsNumber (append-nil (decimal n))
    (number_of (decimal n) [] (whole_decimal n low) refl refl)

six_are_digits : (n : ℕ) → n < 1_000_000 → AreDigits (six_digits n)
unfolding six_digits
six_are_digits n low = (
  omega arith,
  omega arith,
  (
    omega arith,
    omega arith,
    (
      omega arith,
      omega arith,
      (
        omega arith,
        omega arith,
        (omega arith, omega arith, (omega arith, omega arith, tt)),
      ),
    ),
  ),
)

six_long : (n : ℕ) → length (six_digits n) ≡ 6
unfolding six_digits
six_long n = refl

after_six : (n : ℕ) → n < 1_000_000 → after_digits (six_digits n) ≡ Some []
after_six n low =
    let ds = six_digits n in
    let all : prefix_len is_ascii_digit ds ≡ length ds =
    ap (prefix_len is_ascii_digit) (sym (append-nil ds)) ∙ digits_in_front ds [] (six_are_digits n low) refl in
    let rest : drop (length ds) ds ≡ [] = ap (drop (length ds)) (sym (append-nil ds)) ∙ drop_front ds [] in
    rw (all, ne_eqb (length ds) 0 (λ e. omega (arith, six_long n))) (ap Some rest)

pub IsNumber-millionths : (n : ℕ) → n < 10 ^ 64 → IsNumber (millionths_text n)
unfolding millionths_text
IsNumber-millionths n low =
    number_of (decimal (n / 1_000_000)) (46 ∷ six_digits (n % 1_000_000)) (whole_decimal (n / 1_000_000) (omega arith))
    refl
    (ap (option_and_then after_exponent) (after_six (n % 1_000_000) (omega arith)))
