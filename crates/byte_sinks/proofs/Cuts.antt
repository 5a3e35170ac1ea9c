-- Where the pieces of some memory begin.
use Rattle.std.proofs.Common.{◌≡◌, ℕ, rules, inl, inr, ◌+◌, ◌-◌, ◌*◌, ◌^◌, ◌<◌, ◌≤◌, List, length, min, sym, ap, ◌∙◌}
use Rattle.std.proofs.Common.{arith}
use Rattle.std.specs.List.{between}
use Rattle.std.proofs.Math.Nat.{mul-le-mul_right}
use Rattle.std.proofs.lemmas.Bool.{cases_lt}
use Rattle.std.proofs.lemmas.List.{places, same_lists}
use Rattle.std.proofs.lemmas.Nat.{pow-add}
use Rattle.migration_model.specs.Memory.{GuestMemory}
use Rattle.byte_sinks.specs.Pieces.{piece_of}

-- places that are the same up to the end cut the same bytes
between_clipped : (a b c d : ℕ) (xs : List ℕ) → min a (length xs) ≡ min c (length xs)
    → min b (length xs) ≡ min d (length xs) → between a b xs ≡ between c d xs
between_clipped a b c d xs start end = same_lists _ _ (search (rules, places)) (λ k d h. grind (arith, places))

-- a page that is not there begins where memory ends
clip : (page all n len : ℕ) → len ≡ all * n → min (min page all * n) len ≡ min (page * n) len
clip page all n len is = elim (cases_lt all page) [
  | inl low ↦
      let last : min page all ≡ all = omega (arith, low) in
      let past : all * n ≤ page * n = mul-le-mul_right n (omega (arith, low)) in
      ap (λ (p : ℕ). min (p * n) len) last ∙ omega (arith, is, past)
  | inr high ↦
      let same : min page all ≡ page = omega (arith, high) in
      ap (λ (p : ℕ). min (p * n) len) same
]

-- so many pages are a piece
pub piece_bytes : (shift : ℕ) → shift ≤ 12 → 2 ^ (18 - shift) * 2 ^ shift ≡ 2 ^ 18
piece_bytes shift low =
    let all : 18 - shift + shift ≡ 18 = omega arith in
    sym (pow-add 2 (18 - shift) shift) ∙ ap (λ (k : ℕ). 2 ^ k) all

-- the bytes of a piece's pages are the piece
pub pages_cut : (memory : GuestMemory) (number pages first end : ℕ) → pages * 2 ^ memory.shift ≡ 2 ^ 18
    → length memory.bytes ≡ memory.pages * 2 ^ memory.shift → first ≡ min (number * pages) memory.pages
    → end ≡ min (number * pages + pages) memory.pages
    → between (first * 2 ^ memory.shift) (end * 2 ^ memory.shift) memory.bytes ≡ piece_of memory number
pages_cut memory number pages first end size len first_is end_is =
    let n = 2 ^ memory.shift in
    let times : number * (pages * n) ≡ number * 2 ^ 18 = ap (λ (k : ℕ). number * k) size in
    let start : number * pages * n ≡ number * 2 ^ 18 = omega (arith, times) in
    let stop : (number * pages + pages) * n ≡ (number + 1) * 2 ^ 18 = omega (arith, times, size) in
    between_clipped (first * n) (end * n) (number * 2 ^ 18) ((number + 1) * 2 ^ 18) memory.bytes
    (ap (λ (p : ℕ). min (p * n) (length memory.bytes)) first_is
    ∙ clip (number * pages) memory.pages n (length memory.bytes) len
    ∙ ap (λ (p : ℕ). min p (length memory.bytes)) start)
    (ap (λ (p : ℕ). min (p * n) (length memory.bytes)) end_is
    ∙ clip (number * pages + pages) memory.pages n (length memory.bytes) len
    ∙ ap (λ (p : ℕ). min p (length memory.bytes)) stop)
