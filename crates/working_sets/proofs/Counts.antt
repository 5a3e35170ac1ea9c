-- Counts over runs of numbers.
use Rattle.std.proofs.Common.{◌≡◌, ℕ, zero, suc, ◌+◌, ◌-◌, ◌<◌, ◌≤◌, Bool, false, cond, List, [], ◌∷◌, ◌++◌, map, refl}
use Rattle.std.proofs.Common.{sym, ap, ◌∙◌, inl, inr, arith}
use Rattle.std.specs.List.{count_by, filter, range_with_len}
use Rattle.std.proofs.lemmas.Bool.{cases_eq}
use Rattle.std.proofs.lemmas.List.{append-nil}
use Rattle.std.proofs.lemmas.List.Sums.{sum_by-cons, count_by-le-length}
use Rattle.std.proofs.lemmas.List.FromFn.{length-range_with_len, filter_of_map_range_with_len_more}
use Rattle.working_sets.specs.Counting.{one_if}

count_from : (f : ℕ → Bool) (a n : ℕ) → count_by f (range_with_len a (suc n)) ≡ one_if (f a)
    + count_by f (range_with_len (a + 1) n)
count_from f a n = sum_by-cons (λ x. cond (f x) 1 0) a (range_with_len (a + 1) n)

-- tests that agree count the same
pub count_agree : (f g : ℕ → Bool) (a n : ℕ) → ((i : ℕ) → a ≤ i → i < a + n → g i ≡ f i)
    → count_by g (range_with_len a n) ≡ count_by f (range_with_len a n)
count_agree f g a zero same = refl
count_agree f g a (suc n) same =
    let head : one_if (g a) ≡ one_if (f a) = ap one_if (same a (omega arith) (omega arith)) in
    let tail = count_agree f g (a + 1) n (λ i low high. same i (omega arith) (omega arith)) in
    omega (arith, count_from f a n, count_from g a n, head, tail)

-- tests that agree except at one number count the same except for that one
pub count_change : (f g : ℕ → Bool) (a n p : ℕ) → a ≤ p → p < a + n → ((i : ℕ) → (i ≡ p → ⊥) → g i ≡ f i)
    → count_by g (range_with_len a n) + one_if (f p) ≡ count_by f (range_with_len a n) + one_if (g p)
count_change f g a zero p low high same = absurd (omega arith)
count_change f g a (suc n) p low high same = elim (cases_eq a p) [
  | inl here ↦
      let tail = count_agree f g (a + 1) n (λ i above below. same i (λ e. omega arith)) in
      let at_f : one_if (f a) ≡ one_if (f p) = ap (λ x. one_if (f x)) here in
      let at_g : one_if (g a) ≡ one_if (g p) = ap (λ x. one_if (g x)) here in
      omega (arith, count_from f a n, count_from g a n, tail, at_f, at_g)
  | inr apart ↦
      let head : one_if (g a) ≡ one_if (f a) = ap one_if (same a apart) in
      let tail = count_change f g (a + 1) n p (omega (arith, apart)) (omega arith) same in
      omega (arith, count_from f a n, count_from g a n, head, tail)
]

-- a test that nothing passes counts nothing
pub count_none : (f : ℕ → Bool) (a n : ℕ) → ((i : ℕ) → a ≤ i → f i ≡ false) → count_by f (range_with_len a n) ≡ 0
count_none f a zero fails = refl
count_none f a (suc n) fails =
    let head : one_if (f a) ≡ 0 = ap one_if (fails a (omega arith)) in
    let tail = count_none f (a + 1) n (λ i low. fails i (omega arith)) in
    omega (arith, count_from f a n, head, tail)

-- nothing that passes comes after the first n numbers
pub count_extend : (f : ℕ → Bool) (a n m : ℕ) → n ≤ m → ((i : ℕ) → a + n ≤ i → f i ≡ false)
    → count_by f (range_with_len a m) ≡ count_by f (range_with_len a n)
count_extend f a zero m low fails = count_none f a m (λ i above. fails i (omega arith))
count_extend f a (suc n) zero low fails = absurd (omega arith)
count_extend f a (suc n) (suc m) low fails =
    let tail = count_extend f (a + 1) n m (omega arith) (λ i above. fails i (omega arith)) in
    omega (arith, count_from f a n, count_from f a m, tail)

pub count_le : (f : ℕ → Bool) (a n : ℕ) → count_by f (range_with_len a n) ≤ n
count_le f a n = omega (arith, count_by-le-length f (range_with_len a n), length-range_with_len a n)

-- functions that agree make one list
pub map_agree : {X : Type 0} (f g : ℕ → X) (a n : ℕ) → ((i : ℕ) → a ≤ i → i < a + n → g i ≡ f i)
    → map g (range_with_len a n) ≡ map f (range_with_len a n)
map_agree f g a zero same = refl
map_agree {X} f g a (suc n) same =
    let head = same a (omega arith) (omega arith) in
    let tail = map_agree f g (a + 1) n (λ i low high. same i (omega arith) (omega arith)) in
    λ k. head k ∷ tail k

-- nothing that passes is made of the numbers after the first n
filter_behind : {X : Type 0} (p : X → Bool) (f : ℕ → X) (n k : ℕ) → ((i : ℕ) → n ≤ i → p (f i) ≡ false)
    → filter p (map f (range_with_len 0 (n + k))) ≡ filter p (map f (range_with_len 0 n))
filter_behind {X} p f n zero fails =
    let none : n + 0 ≡ n = omega arith in
    ap (λ m. filter p (map f (range_with_len 0 m))) none
filter_behind {X} p f n (suc k) fails =
    let last : cond (p (f (n + k))) (f (n + k) ∷ []) [] ≡ [] =
    ap (λ b. cond b (f (n + k) ∷ []) []) (fails (n + k) (omega arith)) in
    let more : filter p (map f (range_with_len 0 ((n + k) + 1))) ≡ filter p (map f (range_with_len 0 (n + k)))
    ++ cond (p (f (n + k))) (f (n + k) ∷ []) [] =
    filter_of_map_range_with_len_more p f 0 (n + k) (n + k) (omega arith) in
    let next : n + suc k ≡ (n + k) + 1 = omega arith in
    ap (λ m. filter p (map f (range_with_len 0 m))) next
    ∙ more ∙ ap (λ (l : List X). filter p (map f (range_with_len 0 (n + k))) ++ l) last ∙ append-nil _
    ∙ filter_behind p f n k fails

pub filter_extend : {X : Type 0} (p : X → Bool) (f : ℕ → X) (n m : ℕ) → n ≤ m → ((i : ℕ) → n ≤ i → p (f i) ≡ false)
    → filter p (map f (range_with_len 0 m)) ≡ filter p (map f (range_with_len 0 n))
filter_extend p f n m low fails =
    let sum : n + (m - n) ≡ m = omega arith in
    ap (λ k. filter p (map f (range_with_len 0 k))) (sym sum) ∙ filter_behind p f n (m - n) fails
