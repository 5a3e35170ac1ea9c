-- Lists in the order of some number of their elements, as writes are in the order of their ticks.
use Rattle.std.proofs.Common.{◌≡◌, ℕ, ◌<◌, ◌≤◌, List, [], ◌∷◌, ◌++◌, length, refl, inl, inr, arith}
use Rattle.std.specs.List.{All, AllByRecursion, fold}
use Rattle.std.specs.List.Sorted.{IsNonDecreasingBy}
use Rattle.std.proofs.lemmas.Bool.{cases_lt}
use Rattle.std.proofs.lemmas.List.{get_or_append_left, get_or_at, get_or_push, length-append, length_push}
use Rattle.std.proofs.lemmas.List.Elements.{recursion_from_All}
use Rattle.std.proofs.lemmas.List.Sums.{fold-append}
use Rattle.migration_model.specs.Trace.{last_by}

pub last_by-push : {X : Type 0} (number : X → ℕ) (xs : List X) (x : X) → last_by number (xs ++ x ∷ []) ≡ number x
last_by-push number xs x = fold-append _ 0 xs (x ∷ [])

last_below : {X : Type 0} (number : X → ℕ) (bound start : ℕ) (xs : List X) → start ≤ bound
    → AllByRecursion (λ x. number x ≤ bound) xs
    → fold (λ last x. number x) start xs ≤ bound
last_below number bound start [] low below = low
last_below number bound start (x ∷ xs) low below = last_below number bound (number x) xs below.0 below.1

-- the last number is no greater than what no number is greater than
pub last_by-le : {X : Type 0} (number : X → ℕ) (bound : ℕ) (xs : List X) → All (λ x. number x ≤ bound) xs
    → last_by number xs ≤ bound
last_by-le number bound xs below = last_below number bound 0 xs (omega arith)
    (recursion_from_All (λ x. number x ≤ bound) xs below)

-- one that is not before the others keeps the order
pub in_order-push : {X : Type 0} (number : X → ℕ) (xs : List X) (x : X) → IsNonDecreasingBy number xs
    → All (λ y. number y ≤ number x) xs
    → IsNonDecreasingBy number (xs ++ x ∷ [])
in_order-push number xs x order below i j d le low = elim (cases_lt j (length xs)) [
  | inl inside ↦
      let first : i < length xs = omega arith in
      rw (get_or_append_left xs (x ∷ []) d i first, get_or_append_left xs (x ∷ []) d j inside) (order i j d le inside)
  | inr past ↦
      let last : length xs ≡ j = omega (arith, length_push xs x) in
      rw (get_or_push xs x d j last) (elim (cases_lt i (length xs)) [
        | inl first ↦ rw (get_or_append_left xs (x ∷ []) d i first) (below i d first)
        | inr same ↦ let here : length xs ≡ i = omega (arith, length_push xs x) in rw (get_or_push xs x d i here)
            (omega arith)
      ])
]

-- in an ordered list, the elements in front of one are not after it
pub in_order-front : {X : Type 0} (number : X → ℕ) (xs : List X) (x : X) (others : List X)
    → IsNonDecreasingBy number (xs ++ x ∷ others)
    → All (λ y. number y ≤ number x) xs
in_order-front number xs x others order k d low =
    let both = order k (length xs) d (omega arith) (omega (arith, length-append xs (x ∷ others))) in
    rw (get_or_append_left xs (x ∷ others) d k low, get_or_at xs x others d (length xs) refl) at both
