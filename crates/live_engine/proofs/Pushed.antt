-- Lists with one more element at the end.
use Rattle.std.proofs.Common.{◌≡◌, ℕ, zero, suc, ◌+◌, ◌-◌, ◌<◌, ◌≤◌}
use Rattle.std.proofs.Common.{List, [], ◌∷◌, ◌++◌, length, take, get_or, refl, sym, ap, ◌∙◌}
use Rattle.std.proofs.Common.{arith}
use Rattle.std.specs.Prelude.{Some, slice_get}
use Rattle.std.proofs.lemmas.List.{get_or_append_left, get_or-append-add, length-append}
use Rattle.std.proofs.lemmas.Option.{same_Some, get_or_from_slice_get, slice_get-get_or}

pub last_of : {X : Type 0} (xs : List X) (x : X) → slice_get (xs ++ x ∷ []) (length (xs ++ x ∷ []) - 1) ≡ Some x
last_of xs x =
    let len : length (xs ++ x ∷ []) ≡ length xs + 1 = length-append xs (x ∷ []) in
    let index : length (xs ++ x ∷ []) - 1 ≡ length xs + 0 = omega (arith, len) in
    ap (slice_get (xs ++ x ∷ [])) index ∙ slice_get-get_or (xs ++ x ∷ []) (length xs + 0) x (omega (arith, len))
    ∙ ap Some (get_or-append-add xs (x ∷ []) 0 x)

pub is_last : {X : Type 0} (xs : List X) (x y : X) → slice_get (xs ++ x ∷ []) (length (xs ++ x ∷ []) - 1) ≡ Some y
    → x ≡ y
is_last xs x y there = same_Some x y (sym (last_of xs x) ∙ there)

pub at_front : {X : Type 0} (xs : List X) (x y : X) (i : ℕ) → i < length xs → slice_get (xs ++ x ∷ []) i ≡ Some y
    → slice_get xs i ≡ Some y
at_front xs x y i low there =
    slice_get-get_or xs i y low ∙ ap Some (sym (get_or_append_left xs (x ∷ []) y i low)
    ∙ get_or_from_slice_get (xs ++ x ∷ []) i y y there)

pub at_end : {X : Type 0} (xs : List X) (x y : X) → slice_get (xs ++ x ∷ []) (length xs) ≡ Some y → x ≡ y
at_end xs x y there =
    let index : length xs + 0 ≡ length xs = omega arith in
    sym (get_or-append-add xs (x ∷ []) 0 y) ∙ ap (λ (k : ℕ). get_or (xs ++ x ∷ []) k y) index
    ∙ get_or_from_slice_get (xs ++ x ∷ []) (length xs) y y there

pub take_front : {X : Type 0} (xs ys : List X) (i : ℕ) → i ≤ length xs → take i (xs ++ ys) ≡ take i xs
take_front [] ys zero low = refl
take_front [] ys (suc i) low = absurd (omega (arith, low))
take_front (x ∷ xs) ys zero low = refl
take_front (x ∷ xs) ys (suc i) low = ap (λ l. x ∷ l) (take_front xs ys i (omega (arith, low)))

pub take_whole : {X : Type 0} (xs : List X) → take (length xs) xs ≡ xs
take_whole [] = refl
take_whole (x ∷ xs) = ap (λ l. x ∷ l) (take_whole xs)
