-- The tokens of numbered things, adding one at a time.
use Rattle.std.proofs.Common.{◌≡◌, ℕ, ◌+◌, ◌<◌, ◌≤◌, List, [], ◌∷◌, ◌++◌, length, get_or, take, sym, ap, ◌∙◌}
use Rattle.std.proofs.Common.{append_assoc, arith}
use Rattle.std.specs.List.{flat_map, enumerate_from}
use Rattle.std.proofs.lemmas.List.{take_more, take_all, append-nil}
use Rattle.std.proofs.lemmas.List.Concat.{flat_map-append}
use Rattle.std.proofs.lemmas.List.FromFn.{length-enumerate_from, get_or-enumerate_from}
use Rattle.json.specs.Token.{Token}

module _ {X : Type 0} (text : ℕ → X → List Token) where
  -- the tokens of the first `n`
  abbrev pub first_tokens : ℕ → List X → List Token
  first_tokens n xs = flat_map (λ (at : ℕ × X). text at.0 at.1) (take n (enumerate_from 0 xs))

  pub one_more : (n : ℕ) (xs : List X) (x : X) (old so_far new : List Token) → n < length xs → x ≡ get_or xs n x
      → so_far ≡ old ++ first_tokens n xs → new ≡ so_far ++ text n x → new ≡ old ++ first_tokens (n + 1) xs
  one_more n xs x old so_far new low is before made =
      let all = enumerate_from 0 xs in
      let one : ℕ × X → List Token = λ at. text at.0 at.1 in
      let place : 0 + n ≡ n = omega arith in
      let there : get_or all n (0, x) ≡ (n, x) = get_or-enumerate_from 0 xs n (0, x) low ∙ (λ i. (place i, sym is i)) in
      let more : take (n + 1) all ≡ take n all ++ (n, x) ∷ [] =
      take_more all n (0, x) (omega (arith, length-enumerate_from 0 xs))
      ∙ ap (λ (at : ℕ × X). take n all ++ at ∷ []) there in
      let step : first_tokens (n + 1) xs ≡ first_tokens n xs ++ text n x =
      ap (flat_map one) more ∙ flat_map-append one (take n all) ((n, x) ∷ [])
      ∙ ap (λ (l : List Token). first_tokens n xs ++ l) (append-nil (text n x)) in
      made ∙ ap (λ (l : List Token). l ++ text n x) before ∙ append_assoc old (first_tokens n xs) (text n x)
      ∙ ap (λ (l : List Token). old ++ l) (sym step)

  pub all_of : (n : ℕ) (xs : List X) → length xs ≤ n → first_tokens n xs
      ≡ flat_map (λ (at : ℕ × X). text at.0 at.1) (enumerate_from 0 xs)
  all_of n xs high =
      ap (flat_map (λ (at : ℕ × X). text at.0 at.1)) (take_all n (enumerate_from 0 xs)
      (omega (arith, length-enumerate_from 0 xs)))
