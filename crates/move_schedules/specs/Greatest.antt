-- The greatest of the numbers that the elements of a list give; 0 of none.
use Rattle.std.specs.Prelude.{ℕ, max, List, [], ◌∷◌}

abbrev pub greatest : {X : Type 0} → (X → ℕ) → List X → ℕ
greatest f [] = 0
greatest f (x ∷ xs) = max (f x) (greatest f xs)
