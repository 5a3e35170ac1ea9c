-- Texts of things that are numbered from the first, one after another.
use Rattle.std.proofs.Common.{◌≡◌, ℕ, ◌+◌, ◌<◌, ◌≤◌, List, [], ◌∷◌, ◌++◌, length, get_or, take, sym, ap, ◌∙◌}
use Rattle.std.proofs.Common.{append_assoc, arith}
use Rattle.std.specs.List.{flat_map, enumerate_from}
use Rattle.std.proofs.lemmas.List.{take_more, take_all, append-nil}
use Rattle.std.proofs.lemmas.List.Concat.{flat_map-append}
use Rattle.std.proofs.lemmas.List.FromFn.{length-enumerate_from, get_or-enumerate_from}

-- the texts of the first `n`
abbrev pub first_texts : {X : Type 0} → (ℕ × X → List ℕ) → ℕ → List X → List ℕ
first_texts {X} text n xs = flat_map text (take n (enumerate_from 0 xs))

pub one_text_more : {X : Type 0} → (text : ℕ × X → List ℕ) (n : ℕ) (xs : List X) (x : X) (old so_far new : List ℕ)
    → n < length xs → x ≡ get_or xs n x → so_far ≡ old ++ first_texts text n xs → new ≡ so_far ++ text (n, x)
    → new ≡ old ++ first_texts text (n + 1) xs
one_text_more {X} text n xs x old so_far new low is before made =
    let all = enumerate_from 0 xs in
    let place : 0 + n ≡ n = omega arith in
    let there : get_or all n (0, x) ≡ (n, x) = get_or-enumerate_from 0 xs n (0, x) low ∙ (λ i. (place i, sym is i)) in
    let more : take (n + 1) all ≡ take n all ++ (n, x) ∷ [] =
    take_more all n (0, x) (omega (arith, length-enumerate_from 0 xs))
    ∙ ap (λ (y : ℕ × X). take n all ++ y ∷ []) there in
    let step : first_texts text (n + 1) xs ≡ first_texts text n xs ++ text (n, x) =
    ap (flat_map text) more ∙ flat_map-append text (take n all) ((n, x) ∷ [])
    ∙ ap (λ (l : List ℕ). first_texts text n xs ++ l) (append-nil (text (n, x))) in
    made ∙ ap (λ (l : List ℕ). l ++ text (n, x)) before ∙ append_assoc old (first_texts text n xs) (text (n, x))
    ∙ ap (λ (l : List ℕ). old ++ l) (sym step)

pub all_texts : {X : Type 0} → (text : ℕ × X → List ℕ) (n : ℕ) (xs : List X) → length xs ≤ n
    → first_texts text n xs ≡ flat_map text (enumerate_from 0 xs)
all_texts text n xs high =
    ap (flat_map text) (take_all n (enumerate_from 0 xs) (omega (arith, length-enumerate_from 0 xs)))
