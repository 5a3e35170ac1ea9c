-- Lists that are written index by index.
use Rattle.std.proofs.Common.{◌≡◌, ℕ, zero, suc, ◌+◌, ◌<◌, List, [], ◌∷◌, ◌++◌, length, get_or, set, sym, ap, subst}
use Rattle.std.proofs.Common.{◌∙◌, arith, inl, inr}
use Rattle.std.specs.Prelude.{All}
use Rattle.std.proofs.Math.Seq.{get_or-append_seam}
use mathlib.Core.Option.{some, some-injective, some-ne-none}
use lib.ListN.{get_elem?}
use Rattle.std.proofs.lemmas.Bool.{cases_eq}
use Rattle.std.proofs.lemmas.List.{get_or-set_same, get_or-set_other, length-append}

pub at_value : (xs : List ℕ) (i x : ℕ) → get_elem? xs i ≡ some x → get_or xs i 0 ≡ x
at_value [] i x e = absurd (some-ne-none x (sym e))
at_value (y ∷ ys) zero x e = some-injective y x e
at_value (y ∷ ys) (suc i) x e = at_value ys i x e

-- one more index written
pub set_more : (f : ℕ → ℕ) (xs : List ℕ) (i x : ℕ) → i < length xs → x ≡ f i → ((k : ℕ) → k < i → get_or xs k 0 ≡ f k)
    → (k : ℕ) → k < i + 1 → get_or (set xs i x) k 0 ≡ f k
set_more f xs i x within is below k low = elim (cases_eq k i) [
  | inl e ↦ ap (λ n. get_or (set xs i x) n 0) e ∙ get_or-set_same xs i x 0 within ∙ is ∙ ap f (sym e)
  | inr ne ↦ rw get_or-set_other (below k (omega arith))
]

-- what is true of each item is true of one between the others
pub all_middle : {A : Type 0} (P : A → Type 0) (before : List A) (x : A) (later all : List A) → All P all
    → before ++ x ∷ later ≡ all → P x
all_middle P before x later all each is =
    let low : length before < length (before ++ x ∷ later) = rw length-append (omega arith) in
    subst P (get_or-append_seam before x later x) (subst (λ xs. All P xs) (sym is) each (length before) x low)
