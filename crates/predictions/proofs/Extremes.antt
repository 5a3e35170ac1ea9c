-- The least and the greatest of the numbers of a list, one after another.
use Rattle.std.proofs.Common.{◌≡◌, ℕ, ◌+◌, ◌<◌, ◌≤◌, List, [], ◌∷◌, ◌++◌, length, get_or, take, map, min, max, ap, sym}
use Rattle.std.proofs.Common.{subst, ◌∙◌, inl, inr, arith}
use Rattle.std.proofs.lemmas.Bool.{cases_lt}
use Rattle.std.proofs.lemmas.List.{map-append, take_more}
use Rattle.std.proofs.lemmas.List.Elements.{All-nil, All-push, All-weaker, Contains-append_left, Contains-push}
use Rattle.std.specs.List.{Contains}
use Rattle.predictions.specs.Starts.Ranges.{IsRange}

-- a number at the end of the list
least_push : (ns : List ℕ) (n low : ℕ) → Contains ns low → Contains (ns ++ n ∷ []) (min low n)
least_push ns n low has = elim (cases_lt n low) [
  | inl less ↦
      let same : n ≡ min low n = omega (arith, less) in
      subst (λ (m : ℕ). Contains (ns ++ n ∷ []) m) same (Contains-push ns n)
  | inr high ↦
      let same : low ≡ min low n = omega (arith, high) in
      subst (λ (m : ℕ). Contains (ns ++ n ∷ []) m) same (Contains-append_left ns (n ∷ []) low has)
]

greatest_push : (ns : List ℕ) (n high : ℕ) → Contains ns high → Contains (ns ++ n ∷ []) (max high n)
greatest_push ns n high has = elim (cases_lt n high) [
  | inl less ↦
      let same : high ≡ max high n = omega (arith, less) in
      subst (λ (m : ℕ). Contains (ns ++ n ∷ []) m) same (Contains-append_left ns (n ∷ []) high has)
  | inr more ↦
      let same : n ≡ max high n = omega (arith, more) in
      subst (λ (m : ℕ). Contains (ns ++ n ∷ []) m) same (Contains-push ns n)
]

abbrev Within : ℕ → ℕ → ℕ → Type 0
Within low high n = (low ≤ n) × (n ≤ high)

range_push : (ns : List ℕ) (n low high : ℕ) → IsRange ns low high → IsRange (ns ++ n ∷ []) (min low n) (max high n)
range_push ns n low high is = record {
  least_in = least_push ns n low is.least_in;
  greatest_in = greatest_push ns n high is.greatest_in;
  between = All-push (Within (min low n) (max high n)) ns n
      (All-weaker (Within low high) (Within (min low n) (max high n))
      (λ m within. (omega (arith, within.0), omega (arith, within.1))) ns is.between)
      (omega arith, omega arith);
}

module _ {X : Type 0} (f : X → ℕ) (xs : List X) where
  one_more : (i : ℕ) (x : X) → i < length xs → x ≡ get_or xs i x
      → map f (take (i + 1) xs) ≡ map f (take i xs) ++ f x ∷ []
  one_more i x low is = ap (map f) (take_more xs i x low) ∙ map-append f (take i xs) (get_or xs i x ∷ [])
      ∙ ap (λ (y : X). map f (take i xs) ++ f y ∷ []) (sym is)

  pub range_one : (x : X) (low high : ℕ) → 0 < length xs → x ≡ get_or xs 0 x → low ≡ f x → high ≡ f x
      → IsRange (map f (take 1 xs)) low high
  range_one x low high some is least greatest =
      let only : map f (take 1 xs) ≡ f x ∷ [] = one_more 0 x some is in
      let of_one : IsRange (f x ∷ []) (f x) (f x) = record {
        least_in = Contains-push [] (f x);
        greatest_in = Contains-push [] (f x);
        between = All-push (Within (f x) (f x)) [] (f x) (All-nil (Within (f x) (f x))) (omega arith, omega arith);
      } in
      subst (λ (ns : List ℕ). IsRange ns low high) (sym only)
      (subst (λ (n : ℕ). IsRange (f x ∷ []) low n) (sym greatest)
      (subst (λ (n : ℕ). IsRange (f x ∷ []) n (f x)) (sym least) of_one))

  pub range_more : (i : ℕ) (x : X) (n low high next_low next_high : ℕ) → i < length xs → x ≡ get_or xs i x → n ≡ f x
      → next_low ≡ min low n → next_high ≡ max high n → IsRange (map f (take i xs)) low high
      → IsRange (map f (take (i + 1) xs)) next_low next_high
  range_more i x n low high next_low next_high inside is value least greatest before =
      let pushed : IsRange (map f (take i xs) ++ n ∷ []) (min low n) (max high n) =
      range_push (map f (take i xs)) n low high before in
      let list : map f (take i xs) ++ n ∷ [] ≡ map f (take (i + 1) xs) =
      ap (λ (m : ℕ). map f (take i xs) ++ m ∷ []) value ∙ sym (one_more i x inside is) in
      subst (λ (ns : List ℕ). IsRange ns next_low next_high) list
      (subst (λ (m : ℕ). IsRange (map f (take i xs) ++ n ∷ []) next_low m) (sym greatest)
      (subst (λ (m : ℕ). IsRange (map f (take i xs) ++ n ∷ []) m (max high n)) (sym least) pushed))
