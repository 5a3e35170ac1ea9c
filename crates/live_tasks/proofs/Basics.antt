-- What both crates of live runs say about truth values, and about empty lists.
use Rattle.std.proofs.Common.{◌≡◌, ℕ, ◌<◌, inl, inr, false, leb, [], arith}
use Rattle.std.specs.List.{Contains}
use Rattle.std.proofs.lemmas.Bool.{cases_Bool, leb-true}

pub in_none : {X : Type 0} (x : X) → Contains [] x → ⊥
in_none x c = let low = c.1 in omega (arith, low)

pub false_leb : (a b : ℕ) → b < a → leb a b ≡ false
false_leb a b lt = elim (cases_Bool (leb a b)) [
  | inl e ↦ absurd (let le = leb-true a b e in omega (arith, lt, le))
  | inr e ↦ e
]
