-- Being less by a number, and then by a test, is an order if the test is one.
use Rattle.std.proofs.Common.{◌≡◌, ℕ, ◌≤◌, ◌<◌, Bool, true, false, ◌&&◌, ◌||◌, eqb, ltb, ◌∙◌, sym, inl, inr, arith}
use Rattle.std.specs.Prelude.{◌⊎◌, if◌then◌else◌, nat_le}
use Rattle.std.specs.Cmp.{IsStrictWeakOrder}
use Rattle.std.proofs.lemmas.Bool.{cases_lt, cases_eq, or_cases, or_left, or_right, and_parts, and_from, both_ways}
use Rattle.std.proofs.lemmas.Bool.{false_from_ne_true, ltb-true, lt-ltb, eq-eqb, eqb-true}
use Rattle.std.proofs.lemmas.List.MinMax.{IsStrictWeakOrder-by_number}
use Rattle.predictions.specs.Starts.Costs.{CostAtStart, plain_of}
use Rattle.predictions.specs.Starts.Choices.{by_then, bytes_at, is_better_known, is_better_start, is_likely, is_quicker}
use Rattle.predictions.specs.Starts.Choices.{is_worse_known, is_worse_start, lateness, likely_downtime, overrun}

-- the first of two numbers is less, or they are equal and the rest holds
less_is : (m n : ℕ) (rest : Bool) → (ltb m n || (eqb m n && rest)) ≡ true → (m < n) ⊎ ((m ≡ n) × (rest ≡ true))
less_is m n rest is = elim (or_cases (ltb m n) (eqb m n && rest) is) [
  | inl less ↦ inl (ltb-true m n less)
  | inr both ↦ let parts = and_parts (eqb m n) rest both in inr (eqb-true m n parts.0, parts.1)
]

less_from : (m n : ℕ) (rest : Bool) → (m < n) ⊎ ((m ≡ n) × (rest ≡ true)) → (ltb m n || (eqb m n && rest)) ≡ true
less_from m n rest (inl less) = or_left (ltb m n) (eqb m n && rest) (lt-ltb m n less)
less_from m n rest (inr same) = or_right (ltb m n) (eqb m n && rest)
    (and_from (eqb m n) rest (eq-eqb m n same.0) same.1)

-- if it is not less, it is greater, or they are equal and the rest does not hold
not_less : (m n : ℕ) (rest : Bool) → (ltb m n || (eqb m n && rest)) ≡ false → (n < m) ⊎ ((m ≡ n) × (rest ≡ false))
not_less m n rest is = elim (cases_lt m n) [
  | inl less ↦ absurd (both_ways _ is (less_from m n rest (inl less)))
  | inr high ↦ elim (cases_eq m n) [
    | inl same ↦ inr (same, false_from_ne_true rest (λ holds. both_ways _ is (less_from m n rest (inr (same, holds)))))
    | inr other ↦ inl (omega (arith, other))
  ]
]

not_from : (m n : ℕ) (rest : Bool) → (n < m) ⊎ ((m ≡ n) × (rest ≡ false)) → (ltb m n || (eqb m n && rest)) ≡ false
not_from m n rest (inl more) = false_from_ne_true _ (λ is. elim (less_is m n rest is) [
  | inl less ↦ omega arith
  | inr same ↦ omega (arith, same.0)
])
not_from m n rest (inr same) = false_from_ne_true _ (λ is. elim (less_is m n rest is) [
  | inl less ↦ omega (arith, same.0)
  | inr other ↦ both_ways rest same.1 other.1
])

module _ (key : CostAtStart → ℕ) (test : CostAtStart → CostAtStart → Bool) (order : IsStrictWeakOrder test) where
  one_way_then : (a b : CostAtStart) → by_then key test a b ≡ true → by_then key test b a ≡ false
  one_way_then a b is = not_from (key b) (key a) (test b a) (elim (less_is (key a) (key b) (test a b) is) [
    | inl less ↦ inl less
    | inr same ↦ inr (sym same.0, order.one_way a b same.1)
  ])

  chain_of : (a b c : CostAtStart) → (key b < key a) ⊎ ((key a ≡ key b) × (test a b ≡ false))
      → (key c < key b) ⊎ ((key b ≡ key c) × (test b c ≡ false))
      → (key c < key a) ⊎ ((key a ≡ key c) × (test a c ≡ false))
  chain_of a b c (inl x) (inl y) = inl (omega arith)
  chain_of a b c (inl x) (inr y) = inl (omega (arith, y.0))
  chain_of a b c (inr x) (inl y) = inl (omega (arith, x.0))
  chain_of a b c (inr x) (inr y) = inr (x.0 ∙ y.0, order.chain a b c x.1 y.1)

  pub IsStrictWeakOrder-by_then : IsStrictWeakOrder (by_then key test)
  IsStrictWeakOrder-by_then = record {
    one_way = one_way_then;
    chain = λ a b c x y. not_from (key a) (key c) (test a c)
        (chain_of a b c (not_less (key a) (key b) (test a b) x) (not_less (key b) (key c) (test b c) y));
  }

pub better_order : (limit : ℕ) → IsStrictWeakOrder (is_better_start limit)
better_order limit =
    IsStrictWeakOrder-by_then (overrun limit) _ (IsStrictWeakOrder-by_then bytes_at _
    (IsStrictWeakOrder-by_number (λ (at : CostAtStart). at.cost.time)))

pub worse_order : (limit : ℕ) → IsStrictWeakOrder (is_worse_start limit)
worse_order limit = record {
  one_way = λ a b is. (better_order limit).one_way (plain_of b) (plain_of a) is;
  chain = λ a b c x y. (better_order limit).chain (plain_of c) (plain_of b) (plain_of a) y x;
}

pub better_known_order : (limit : ℕ) → IsStrictWeakOrder (is_better_known limit)
better_known_order limit = IsStrictWeakOrder-by_then lateness (is_better_start limit) (better_order limit)

pub worse_known_order : (limit : ℕ) → IsStrictWeakOrder (is_worse_known limit)
worse_known_order limit = IsStrictWeakOrder-by_then lateness (is_worse_start limit) (worse_order limit)

-- what is above a limit counts no less if it is more, whatever else has to hold or is enough
above : (must enough : Bool) (limit l m : ℕ) → l ≤ m
    → (if must && (enough || nat_le l limit) then 0 else l) ≤ (if must && (enough || nat_le m limit) then 0 else m)
above false enough limit l m less = less
above true true limit l m less = omega arith
above true false limit l m less = grind arith

-- errors never make a start better
overrun_grows : (limit : ℕ) (at : CostAtStart) → overrun limit (plain_of at) ≤ overrun limit at
unfolding is_likely
overrun_grows limit at = above at.cost.is_kept at.cost.is_bounded limit (likely_downtime (plain_of at))
    (likely_downtime at) (grind arith)

pub no_better_with_errors : (limit : ℕ) (a b : CostAtStart) → is_better_start limit (plain_of a) b ≡ false
    → is_better_start limit a b ≡ false
no_better_with_errors limit a b is =
    let rest = by_then bytes_at is_quicker a b in
    let grows = overrun_grows limit a in
    not_from (overrun limit a) (overrun limit b) rest
    (elim (not_less (overrun limit (plain_of a)) (overrun limit b) rest is) [
      | inl more ↦ inl (omega (arith, grows))
      | inr same ↦ elim (cases_lt (overrun limit b) (overrun limit a)) [
        | inl more ↦ inl more
        | inr no_more ↦ inr (omega (arith, same.0, grows, no_more), same.1)
      ]
    ])
