-- The greatest of one more number, and its bounds.
use Rattle.std.proofs.Common.{◌≡◌, ℕ, zero, suc, ◌+◌, ◌≤◌, ◌<◌, List, [], ◌∷◌, ◌++◌, length, get_or, take, ap, ◌∙◌}
use Rattle.std.proofs.Common.{Bool, true, false, arith, refl}
use Rattle.std.specs.Prelude.{All, max, if◌then◌else◌}
use Rattle.std.proofs.lemmas.List.{take_more}
use Rattle.std.proofs.lemmas.List.Elements.{All-head, All-tail}
use Rattle.move_schedules.specs.Greatest.{greatest}

pub greatest_push : {X : Type 0} (f : X → ℕ) (xs : List X) (x : X)
    → greatest f (xs ++ x ∷ []) ≡ max (greatest f xs) (f x)
greatest_push f [] x = omega arith
greatest_push f (y ∷ ys) x = omega (arith, greatest_push f ys x)

pub greatest_more : {X : Type 0} (f : X → ℕ) (xs : List X) (i : ℕ) (d : X) → i < length xs
    → greatest f (take (i + 1) xs) ≡ max (greatest f (take i xs)) (f (get_or xs i d))
greatest_more {X} f xs i d low = ap (λ (l : List X). greatest f l) (take_more xs i d low)
    ∙ greatest_push f (take i xs) (get_or xs i d)

-- no element gives more
pub le-greatest : {X : Type 0} (f : X → ℕ) (xs : List X) (k : ℕ) (d : X) → k < length xs
    → f (get_or xs k d) ≤ greatest f xs
le-greatest f [] k d low = absurd (omega arith)
le-greatest f (x ∷ xs) zero d low = omega arith
le-greatest f (x ∷ xs) (suc k) d low = omega (arith, le-greatest f xs k d (omega arith))

-- what bounds each bounds the greatest
pub greatest-le : {X : Type 0} (f : X → ℕ) (most : ℕ) (xs : List X) → All (λ x. f x ≤ most) xs → greatest f xs ≤ most
greatest-le f most [] all = omega arith
greatest-le f most (x ∷ xs) all = omega (
  arith,
  All-head (λ y. f y ≤ most) x xs all,
  greatest-le f most xs (All-tail (λ y. f y ≤ most) x xs all),
)

-- a number, if a test holds
pub picked : (b : Bool) (n : ℕ) → b ≡ true → (if b then n else 0) ≡ n
picked true n is = refl
picked false n is = cc

pub unpicked : (b : Bool) (n : ℕ) → b ≡ false → (if b then n else 0) ≡ 0
unpicked true n is = cc
unpicked false n is = refl

pub picked-le : (b : Bool) (n most : ℕ) → n ≤ most → (if b then n else 0) ≤ most
picked-le true n most low = low
picked-le false n most low = omega arith
