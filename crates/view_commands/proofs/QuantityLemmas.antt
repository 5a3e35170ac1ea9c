-- Words that are not a number followed by a unit.
use Rattle.std.proofs.Common.{◌≡◌, ℕ, zero, suc, map, ◌*◌, ◌/◌, ◌<◌, ◌^◌, List, [], ◌∷◌, ◌++◌, length, get_or, Option}
use Rattle.std.proofs.Common.{Some, None, sym, ap, subst, ◌∙◌, arith, inl, inr}
use Rattle.std.specs.Prelude.{◌≢◌, IfNone, MatchOption}
use Rattle.std.specs.Borrow.{Bor}
use Rattle.std.specs.Str.Pattern.{FindsTextSuffix, StripsSuffix}
use Rattle.std.specs.Str.Parse.{IsNumeral}
use Rattle.std.proofs.lemmas.Bool.{cases_eq}
use Rattle.std.proofs.lemmas.List.{append_cancel_right, get_or_default, get_or-map, length-map}
use Rattle.std.proofs.lemmas.Str.Parse.{digit_at, without_leading_plus_none, without_leading_plus_plus}
use Rattle.std.proofs.lemmas.Str.Pattern.{IsSplitOnceResult, split_after}
use Rattle.view_commands.specs.Decimals.{IsDecimal, IsWhole}
use Rattle.view_commands.specs.Quantities.{IsCounted, IsQuantity, IsSample, Unit, unit_with}
use Rattle.view_commands.proofs.DecimalLemmas.{decimal_same}

-- no value, whatever it would be
pub if_none : {A : Type 0} (o : Option A) (P : Type 0) → P → IfNone o P
if_none None P holds = holds
if_none (Some x) P holds = tt

-- what is left of a word without its unit
pub stripped : (word name x : List ℕ) → StripsSuffix (FindsTextSuffix name) word x → word ≡ x ++ name
stripped word name x is = is.1.1 ∙ ap (λ (t : List ℕ). t ++ name) (sym is.2)

-- what is counted in a unit is the decimal number before it
pub counted_decimal : (word name text : List ℕ) (factor n : ℕ) → word ≡ text ++ name
    → (is : IsCounted word name factor n)
    → IsDecimal text is.digits is.places
counted_decimal word name text factor n is counted =
    let same : counted.text ≡ text = append_cancel_right counted.text text name (sym counted.word_is ∙ is) in
    subst (λ (t : List ℕ). IsDecimal t counted.digits counted.places) same counted.decimal

pub not_decimal : (word name text : List ℕ) (factor : ℕ) → word ≡ text ++ name
    → ((digits places : ℕ) → ¬ IsDecimal text digits places) → (n : ℕ) → ¬ IsCounted word name factor n
not_decimal word name text factor is never n counted =
    never counted.digits counted.places (counted_decimal word name text factor n is counted)

pub not_small : (word name text : List ℕ) (factor digits places : ℕ) → word ≡ text ++ name
    → IsDecimal text digits places → ¬ (digits * factor / 10 ^ places < 2 ^ 64) → (n : ℕ)
    → ¬ IsCounted word name factor n
not_small word name text factor digits places is decimal high n counted =
    let same = decimal_same text counted.digits digits counted.places places
    (counted_decimal word name text factor n is counted) decimal in
    let rounded : n ≡ digits * factor / 10 ^ places = counted.is_rounded
    ∙ ap (λ (d : ℕ). d * factor / 10 ^ counted.places) same.0 ∙ ap (λ (p : ℕ). digits * factor / 10 ^ p) same.1 in
    high (subst (λ (m : ℕ). m < 2 ^ 64) rounded counted.fits)

plain_digit : (text : List ℕ) (n i : ℕ) → IsWhole text n → get_or text 0 0 ≢ 43 → i < length text → get_or text i 0 ≢ 47
plain_digit text n i whole other low =
    let digits : IsNumeral 10 text = subst (IsNumeral 10) (without_leading_plus_none text other) whole.digits in
    let r = digit_at text i digits.1 low in
    omega (arith, r.0)

after_plus : (text : List ℕ) (n i : ℕ) → IsWhole text n → get_or text 0 0 ≡ 43 → i < length text → get_or text i 0 ≢ 47
after_plus [] n i whole plus low = absurd (omega arith)
after_plus (x ∷ text) n zero whole plus low = omega arith
after_plus (x ∷ text) n (suc i) whole plus low =
    let digits : IsNumeral 10 text = subst (IsNumeral 10) (without_leading_plus_plus (x ∷ text) plus) whole.digits in
    let r = digit_at text i digits.1 (omega arith) in
    omega (arith, r.0)

-- a whole number has no slash
no_slash : (text : List ℕ) (n i : ℕ) → IsWhole text n → i < length text → get_or text i 0 ≢ 47
no_slash text n i whole low = elim (cases_eq (get_or text 0 0) 43) [
  | inl plus ↦ after_plus text n i whole plus low
  | inr other ↦ plain_digit text n i whole other low
]

pub no_sample : (word : List ℕ) (r : Option (Bor (List ℕ) × Bor (List ℕ))) → IsSplitOnceResult 47 word r
    → (sampled guest : ℕ) → IsSample word sampled guest
    → MatchOption r ⊥ (λ x. IsWhole x.0.now sampled × IsWhole x.1.now guest)
no_sample word None split sampled guest is = split_after 47 word is.before is.behind None split (omega arith) is.word_is
    (λ i low. no_slash is.before sampled i is.sampled_is low)
no_sample word (Some x) split sampled guest is =
    let parts = split_after 47 word is.before is.behind (Some x) split (omega arith) is.word_is
    (λ i low. no_slash is.before sampled i is.sampled_is low) in (
      subst (λ (t : List ℕ). IsWhole t sampled) (sym parts.0) is.sampled_is,
      subst (λ (t : List ℕ). IsWhole t guest) (sym parts.1) is.guest_is,
    )

-- a unit as the code has it
abbrev pub unit_of : Bor (List ℕ) × ℕ → Unit
unit_of u = unit_with u.0.now u.1

-- what holds of some unit of a list, and of what it is mapped to
pub quantity_at : (units : List (Bor (List ℕ) × ℕ)) (word : List ℕ) (n k : ℕ) (u : Bor (List ℕ) × ℕ) → k < length units
    → get_or units k u ≡ u → IsCounted word u.0.now u.1 n → IsQuantity (map unit_of units) word n
quantity_at units word n k u low is counted = (
  k,
  unit_of u,
  simp length-map low,
  get_or-map unit_of units k u (unit_of u) low ∙ ap unit_of is,
  counted,
)

pub quantity_here : (units : List (Bor (List ℕ) × ℕ)) (word : List ℕ) (n i : ℕ) (d e : Bor (List ℕ) × ℕ)
    → i < length units → IsCounted word (get_or units i d).0.now (get_or units i e).1 n
    → IsQuantity (map unit_of units) word n
quantity_here units word n i d e low counted =
    let same : get_or units i d ≡ get_or units i e = get_or_default units i d e low in
    quantity_at units word n i (get_or units i e) low (get_or_default units i (get_or units i e) e low)
    (subst (λ (u : Bor (List ℕ) × ℕ). IsCounted word u.0.now (get_or units i e).1 n) same counted)

pub quantity_in : (units : List (Bor (List ℕ) × ℕ)) (word : List ℕ) (n : ℕ) → IsQuantity (map unit_of units) word n
    → (k : ℕ) × (u : Bor (List ℕ) × ℕ) × (k < length units) × (get_or units k u ≡ u) × IsCounted word u.0.now u.1 n
quantity_in [] word n some = absurd (omega (arith, some.2))
quantity_in (x ∷ xs) word n some =
    let low : some.0 < length (x ∷ xs) = simp length-map at some.2 in
    let is : unit_of (get_or (x ∷ xs) some.0 x) ≡ some.1 =
    sym (get_or-map unit_of (x ∷ xs) some.0 x some.1 low) ∙ some.3 in (
      some.0,
      get_or (x ∷ xs) some.0 x,
      low,
      get_or_default (x ∷ xs) some.0 (get_or (x ∷ xs) some.0 x) x low,
      subst (λ (v : Unit). IsCounted word v.name v.factor n) (sym is) some.4,
    )
