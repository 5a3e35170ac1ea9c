-- Two tests of the same bytes.
use Rattle.std.proofs.Common.{◌≡◌, ◌↔◌, ℕ, suc, Bool, false, IsTrue, ◌==◌, List, [], ◌∷◌, length, replicate, refl, sym}
use Rattle.std.proofs.Common.{ap₂, arith}
use Rattle.std.specs.List.{All, list_all}
use Rattle.std.proofs.lemmas.Bool.{false_from_ne_true}
use Rattle.std.proofs.lemmas.Bool.Decides.{same_from_decides}
use Rattle.migration_model.specs.Frames.{IsZeros}
use Rattle.migration_model.proofs.Frames.{tells_zeros}

pub zeros_test : (bytes : List ℕ) (b : Bool) → (IsTrue b ↔ IsZeros bytes) → b ≡ list_all (λ byte. byte == 0) bytes
zeros_test bytes b tells = same_from_decides b (list_all (λ byte. byte == 0) bytes) (tells.0, tells.1)
    (tells_zeros bytes)

pub not_zeros : (bytes : List ℕ) → ¬ IsZeros bytes → list_all (λ byte. byte == 0) bytes ≡ false
not_zeros bytes some = false_from_ne_true _ (λ all. some ((tells_zeros bytes).0 all))

pub some_from_false : (bytes : List ℕ) → list_all (λ byte. byte == 0) bytes ≡ false → ¬ IsZeros bytes
some_from_false bytes is zeros = absurd (cc (is, (tells_zeros bytes).1 zeros))

-- a list whose elements are all equal is that element, repeated
pub all_same : {X : Type 0} (x : X) (xs : List X) → All (λ y. y ≡ x) xs → replicate (length xs) x ≡ xs
all_same x [] same = refl
all_same x (y ∷ ys) same =
    ap₂ (λ (first : _) (rest : List _). first ∷ rest) (sym (same 0 x (omega arith)))
    (all_same x ys (λ k d low. same (suc k) d (omega (arith, low))))
