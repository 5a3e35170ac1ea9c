-- Numbers of a range that pass a test.
use Rattle.std.proofs.Common.{◌≡◌, ℕ, zero, suc, ◌+◌, ◌<◌, ◌≤◌, Bool, true, false, cond, List, [], ◌∷◌, ◌++◌, refl, sym}
use Rattle.std.proofs.Common.{ap, ◌∙◌, arith}
use Rattle.std.specs.List.{filter, range_with_len}
use Rattle.std.proofs.lemmas.List.{append-nil, map-id}
use Rattle.std.proofs.lemmas.List.FromFn.{filter_of_map_range_with_len_more, map-range_with_len_more}

-- one more number in a filtered range
pub filter_range_more : (p : ℕ → Bool) (n : ℕ) → filter p (range_with_len 0 (n + 1)) ≡ filter p (range_with_len 0 n)
    ++ cond (p n) (n ∷ []) []
filter_range_more p n =
    ap (λ (l : List ℕ). filter p l) (sym (map-id (range_with_len 0 (n + 1))))
    ∙ filter_of_map_range_with_len_more p (λ x. x) 0 n n (omega arith)
    ∙ ap (λ (l : List ℕ). filter p l ++ cond (p n) (n ∷ []) []) (map-id (range_with_len 0 n))

-- one more at the end, or not
pub kept : (b : Bool) (xs : List ℕ) (n : ℕ) → cond b (xs ++ n ∷ []) xs ≡ xs ++ cond b (n ∷ []) []
kept true xs n = refl
kept false xs n = sym (append-nil xs)

-- tests that agree keep the same numbers
pub filter_range_agree : (p q : ℕ → Bool) (a n : ℕ) → ((i : ℕ) → a ≤ i → i < a + n → q i ≡ p i)
    → filter q (range_with_len a n) ≡ filter p (range_with_len a n)
filter_range_agree p q a zero same = refl
filter_range_agree p q a (suc n) same =
    let head = same a (omega arith) (omega arith) in
    let tail = filter_range_agree p q (a + 1) n (λ i low high. same i (omega arith) (omega arith)) in
    λ k. cond (head k) (a ∷ tail k) (tail k)

-- a range with one more number
pub range_more : (n : ℕ) → range_with_len 0 (n + 1) ≡ range_with_len 0 n ++ n ∷ []
range_more n =
    sym (map-id (range_with_len 0 (n + 1))) ∙ map-range_with_len_more (λ x. x) 0 n n (omega arith)
    ∙ ap (λ (l : List ℕ). l ++ n ∷ []) (map-id (range_with_len 0 n))
