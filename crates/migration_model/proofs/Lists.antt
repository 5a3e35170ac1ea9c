-- Facts about lists and about values that may be missing, which several crates use.
use Rattle.std.proofs.Common.{◌≡◌, ℕ, ◌<◌, List, [], ◌∷◌, ◌++◌, length, set, drop, replicate, get_or, Option, Some}
use Rattle.std.proofs.Common.{None}
use Rattle.std.proofs.Common.{IfSome, refl, ap, arith, inl, inr}
use Rattle.std.proofs.lemmas.Bool.{cases_lt}
use Rattle.std.proofs.lemmas.List.{get_or_past, get_or-replicate, length-replicate}

-- a list of one value has that value at each index, if it is the default too
pub get_or-replicate_default : {X : Type 0} (n i : ℕ) (x : X) → get_or (replicate n x) i x ≡ x
get_or-replicate_default n i x = elim (cases_lt i n) [
  | inl low ↦ get_or-replicate n i x x low
  | inr past ↦ get_or_past (replicate n x) i x (rw length-replicate past)
]

-- one more item after those at the front of a buffer
pub over_more : {X : Type 0} (items old : List X) (y : X) → length items < length old
    → set (items ++ drop (length items) old) (length items) y ≡ (items ++ y ∷ []) ++ drop (length (items ++ y ∷ [])) old
over_more [] [] y low = absurd (omega (arith, low))
over_more [] (z ∷ old) y low = refl
over_more (x ∷ items) [] y low = absurd (omega (arith, low))
over_more {X} (x ∷ items) (z ∷ old) y low = ap (λ (l : List X). x ∷ l) (over_more items old y (omega (arith, low)))

-- what is true of each value that may be there
pub if_some : {X : Type 0} {P : X → Type 0} (o : Option X) → ((x : X) → o ≡ Some x → P x) → IfSome o P
if_some None each = tt
if_some (Some x) each = each x refl
