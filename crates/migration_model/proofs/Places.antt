-- Places of the elements of a list that pass a test.
use Rattle.std.proofs.Common.{◌≡◌, ℕ, ◌+◌, Bool, true, false, cond, List, [], ◌∷◌, map, refl, ap, ◌∙◌}
use Rattle.std.specs.List.{filter, enumerate_from}

-- such places, if the first element has place s
abbrev pub from : {X : Type 0} → (X → Bool) → ℕ → List X → List ℕ
from q s [] = []
from q s (x ∷ xs) = cond (q x) (s ∷ from q (s + 1) xs) (from q (s + 1) xs)

pub map_cond : {X Y : Type 0} (f : X → Y) (b : Bool) (x : X) (xs : List X)
    → map f (cond b (x ∷ xs) xs) ≡ cond b (f x ∷ map f xs) (map f xs)
map_cond f true x xs = refl
map_cond f false x xs = refl

pub from_is : {X : Type 0} (q : X → Bool) (s : ℕ) (xs : List X)
    → map (λ (at : ℕ × X). at.0) (filter (λ (at : ℕ × X). q at.1) (enumerate_from s xs)) ≡ from q s xs
from_is q s [] = refl
from_is {X} q s (x ∷ xs) =
    map_cond (λ (at : ℕ × X). at.0) (q x) (s, x) (filter (λ (at : ℕ × X). q at.1) (enumerate_from (s + 1) xs))
    ∙ ap (λ (l : List ℕ). cond (q x) (s ∷ l) l) (from_is q (s + 1) xs)
