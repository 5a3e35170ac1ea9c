-- The pages of a bitmap, found word by word and bit by bit.
use Rattle.std.proofs.Common.{◌≡◌, ◌≢◌, ℕ, zero, suc, ◌+◌, ◌-◌, ◌*◌, ◌/◌, ◌%◌, ◌^◌, ◌<◌, ◌≤◌, Bool, true, false, cond}
use Rattle.std.proofs.Common.{◌&&◌, eqb, List, [], ◌∷◌, ◌++◌, length, get_or, take, set, bit_and, refl, sym, ap, ◌∙◌}
use Rattle.std.proofs.Common.{append_assoc, inl, inr, arith, w64}
use Rattle.std.specs.Prelude.{IsTrue}
use Rattle.std.specs.Int.{bit_at, bit_not, trailing_zeros}
use Rattle.std.specs.List.{filter, range_with_len}
use Rattle.std.proofs.lemmas.Bool.{cases_eq, eq-eqb, ne_eqb, and_left, and_right}
use Rattle.std.proofs.lemmas.List.{append-nil, length-append, take_more_set}
use Rattle.std.proofs.lemmas.List.Elements.{filter-append}
use Rattle.std.proofs.lemmas.Nat.{div-mul-add, mod-mul-add, mod_below, div-add-mod'}
use Rattle.std.proofs.lemmas.Nat.Bits.{bit_at-trailing_zeros, bit_at_clear_same, bit_at_clear_other, bit_at-zero}
use Rattle.migration_model.proofs.Ranges.{filter_range_agree}
use Rattle.page_bitmap.specs.Pages.{bit_pages, in_words}
use Rattle.page_bitmap.specs.Listing.{pages_of, pages_of_word}

-- ---- runs of numbers

pub range_split : (a start n m total : ℕ) → total ≡ n + m → start ≡ a + n
    → range_with_len a total ≡ range_with_len a n ++ range_with_len start m
range_split a start zero m total is from =
    let here : a ≡ start = omega (arith, from) in
    let all : total ≡ m = omega (arith, is) in
    λ i. range_with_len (here i) (all i)
range_split a start (suc n) m zero is from = absurd (omega (arith, is))
range_split a start (suc n) m (suc total) is from = ap (λ (l : List ℕ). a ∷ l)
    (range_split (a + 1) start n m total (omega (arith, is)) (omega (arith, from)))

pub none_kept : (p : ℕ → Bool) (a n : ℕ) → ((i : ℕ) → a ≤ i → i < a + n → p i ≡ false)
    → filter p (range_with_len a n) ≡ []
none_kept p a zero none = refl
none_kept p a (suc n) none =
    let tail = none_kept p (a + 1) n (λ i low high. none i (omega arith) (omega arith)) in
    let head = none a (omega arith) (omega arith) in
    λ k. cond (head k) (a ∷ tail k) (tail k)

-- the first number that passes a test, and then the others that pass
pub first_kept : (p q : ℕ → Bool) (page a n : ℕ) → a ≤ page → page < a + n → ((i : ℕ) → a ≤ i → i < page → p i ≡ false)
    → p page ≡ true → q page ≡ false
    → ((i : ℕ) → i ≢ page → q i ≡ p i) → filter p (range_with_len a n) ≡ page ∷ filter q (range_with_len a n)
first_kept p q page a zero low high none here gone same = absurd (omega arith)
first_kept p q page a (suc n) low high none here gone same = elim (cases_eq a page) [
  | inl e ↦
      let head : p a ≡ true = ap p e ∙ here in
      let none_here : q a ≡ false = ap q e ∙ gone in
      let tail : filter q (range_with_len (a + 1) n) ≡ filter p (range_with_len (a + 1) n) =
      filter_range_agree p q (a + 1) n (λ i above below. same i (λ f. omega (arith, above, f, e))) in
      let rest = filter p (range_with_len (a + 1) n) in
      ap (λ b. cond b (a ∷ rest) rest) head ∙ (λ i. e i ∷ sym tail i)
      ∙ ap (λ b. page ∷ cond b (a ∷ filter q (range_with_len (a + 1) n)) (filter q (range_with_len (a + 1) n)))
      (sym none_here)
  | inr ne ↦
      let above : a + 1 ≤ page = omega (arith, ne, low) in
      let head : p a ≡ false = none a (omega arith) (omega (arith, above)) in
      let none_here : q a ≡ false = same a ne ∙ head in
      let tail = first_kept p q page (a + 1) n above (omega (arith, high)) (λ i from to. none i (omega arith) to) here
      gone same in
      let rest = filter p (range_with_len (a + 1) n) in
      ap (λ b. cond b (a ∷ rest) rest) head ∙ tail
      ∙ ap (λ b. page ∷ cond b (a ∷ filter q (range_with_len (a + 1) n)) (filter q (range_with_len (a + 1) n)))
      (sym none_here)
]

pub few_kept : (b : Bool) (x : ℕ) (xs : List ℕ) → length (cond b (x ∷ xs) xs) ≤ length xs + 1
few_kept true x xs = omega arith
few_kept false x xs = omega arith

pub few_pages : (test : ℕ → Bool) (a m : ℕ) → length (filter test (range_with_len a m)) ≤ m
few_pages test a zero = omega arith
few_pages test a (suc m) = omega (
  arith,
  few_kept (test a) a (filter test (range_with_len (a + 1) m)),
  few_pages test (a + 1) m,
)

-- ---- the pages of a word

in_word : (word bits page : ℕ) → page / 64 ≡ word → bit_pages word bits page ≡ eqb (bit_at bits (page % 64)) 1
in_word word bits page e = ap (λ b. b && eqb (bit_at bits (page % 64)) 1) (eq-eqb (page / 64) word e)

same_bit : (word some others page : ℕ) → bit_at some (page % 64) ≡ bit_at others (page % 64)
    → bit_pages word some page ≡ bit_pages word others page
same_bit word some others page e = ap (λ b. eqb (page / 64) word && eqb b 1) e

pub no_bits : (word : ℕ) → pages_of_word word 0 ≡ []
unfolding pages_of_word
no_bits word = none_kept (bit_pages word 0) (word * 64) 64 (λ page low high. and_right _ _
    (ap (λ b. eqb b 1) (bit_at-zero (page % 64))))

-- the bits without the lowest of them
abbrev pub rest_of : ℕ → ℕ
rest_of bits = bit_and bits (bit_not w64 (1 * 2 ^ trailing_zeros w64 bits % 2 ^ 64))

pub lowest_first : (word bits : ℕ) → 0 < bits → bits < 2 ^ 64
    → pages_of_word word bits ≡ (word * 64 + trailing_zeros w64 bits) ∷ pages_of_word word (rest_of bits)
unfolding pages_of_word
lowest_first word bits some fits =
    let lowest = trailing_zeros w64 bits in
    let found = bit_at-trailing_zeros w64 bits some fits in
    let below : lowest < 64 = found.0 in
    let page : ℕ = word * 64 + lowest in
    let e : page / 64 ≡ word = div-mul-add word 64 lowest below in
    let f : page % 64 ≡ lowest = mod-mul-add word 64 lowest below in
    first_kept (bit_pages word bits) (bit_pages word (rest_of bits)) page (word * 64) 64 (omega arith)
    (omega (arith, below))
    (λ i low high.
    let g : i % 64 < lowest = omega (arith, low, high, below) in
    and_right _ _ (ap (λ b. eqb b 1) (found.2 (i % 64) g)))
    (in_word word bits page e ∙ ap (λ k. eqb (bit_at bits k) 1) f ∙ ap (λ b. eqb b 1) found.1)
    (in_word word (rest_of bits) page e ∙ ap (λ k. eqb (bit_at (rest_of bits) k) 1) f
    ∙ ap (λ b. eqb b 1) (bit_at_clear_same w64 bits lowest below))
    (λ i ne. elim (cases_eq (i / 64) word) [
      | inl here ↦
          let apart : i % 64 ≢ lowest = λ g. ne (omega (arith, here, g, div-add-mod' i 64)) in
          same_bit word (rest_of bits) bits i (bit_at_clear_other w64 bits lowest below (i % 64)
          (mod_below i 64 (omega arith)) apart)
      | inr elsewhere ↦ and_left _ _ (ne_eqb (i / 64) word elsewhere)
          ∙ sym (and_left _ _ (ne_eqb (i / 64) word elsewhere))
    ])

-- one more page that is written
pub written_more : (word bits next : ℕ) (room old : List ℕ) → 0 < bits → bits < 2 ^ 64 → next < length room
    → take next room ++ pages_of_word word bits ≡ old
    → take (next + 1) (set room next (word * 64 + trailing_zeros w64 bits)) ++ pages_of_word word (rest_of bits) ≡ old
written_more word bits next room old some fits low before =
    let page = word * 64 + trailing_zeros w64 bits in
    ap (λ (l : List ℕ). l ++ pages_of_word word (rest_of bits)) (take_more_set room next page low)
    ∙ append_assoc (take next room) (page ∷ []) (pages_of_word word (rest_of bits))
    ∙ ap (λ (l : List ℕ). take next room ++ l) (sym (lowest_first word bits some fits)) ∙ before

pub one_fewer : (word bits : ℕ) → 0 < bits → bits < 2 ^ 64 → length (pages_of_word word bits)
    ≡ length (pages_of_word word (rest_of bits)) + 1
one_fewer word bits some fits = omega (arith, ap (λ (l : List ℕ). length l) (lowest_first word bits some fits))

-- no bit is left
pub all_written : (word bits : ℕ) (list old : List ℕ) → bits ≡ 0 → list ++ pages_of_word word bits ≡ old → list ≡ old
all_written word bits list old none is =
    sym (append-nil list) ∙ ap (λ (l : List ℕ). list ++ l) (sym (ap (pages_of_word word) none ∙ no_bits word)) ∙ is

pub none_left : (word bits : ℕ) → bits ≡ 0 → length (pages_of_word word bits) ≡ 0
none_left word bits none = ap (λ (l : List ℕ). length l) (ap (pages_of_word word) none ∙ no_bits word)

-- ---- all words

word_agrees : (marks : List ℕ) (word : ℕ) → filter (in_words marks) (range_with_len (word * 64) 64)
    ≡ pages_of_word word (get_or marks word 0)
unfolding pages_of_word
word_agrees marks word = filter_range_agree (bit_pages word (get_or marks word 0)) (in_words marks) (word * 64) 64
    (λ page low high.
    let e : page / 64 ≡ word = omega (arith, low, high) in
    ap (λ w. eqb (bit_at (get_or marks w 0) (page % 64)) 1) e ∙ sym (in_word word (get_or marks word 0) page e))

-- the pages of the first words
abbrev pub listed : List ℕ → ℕ → List ℕ
listed marks words = filter (in_words marks) (range_with_len 0 (words * 64))

pub listed_more : (marks : List ℕ) (word : ℕ) → listed marks (word + 1) ≡ listed marks word
    ++ pages_of_word word (get_or marks word 0)
listed_more marks word =
    ap (filter (in_words marks)) (range_split 0 (word * 64) (word * 64) 64 ((word + 1) * 64) (omega arith)
    (omega arith))
    ∙ filter-append (in_words marks) (range_with_len 0 (word * 64)) (range_with_len (word * 64) 64)
    ∙ ap (λ (l : List ℕ). listed marks word ++ l) (word_agrees marks word)

pub listed_few : (marks : List ℕ) (some all : ℕ) → some ≤ all → length (listed marks some) ≤ length (listed marks all)
listed_few marks some all le =
    let split = ap (filter (in_words marks)) (range_split 0 (some * 64) (some * 64) ((all - some) * 64) (all * 64)
    (omega (arith, le)) (omega arith))
    ∙ filter-append (in_words marks) (range_with_len 0 (some * 64)) (range_with_len (some * 64) ((all - some) * 64)) in
    omega (
      arith,
      ap (λ (l : List ℕ). length l) split,
      length-append (listed marks some)
          (filter (in_words marks) (range_with_len (some * 64) ((all - some) * 64))),
    )

-- ---- the pages of a guest

absent : (b : Bool) → (b ≡ true → ⊥) → b ≡ false
absent true never = absurd (never refl)
absent false never = refl

-- if no page past the last is in the bitmap, its pages are those of the guest that are in it
pub pages_below : (words : List ℕ) (pages : ℕ) → pages ≤ length words * 64
    → ((page : ℕ) → IsTrue (in_words words page) → page < pages)
    → pages_of words ≡ filter (in_words words) (range_with_len 0 pages)
pages_below words pages fits real =
    let left = length words * 64 - pages in
    let here = filter (in_words words) (range_with_len 0 pages) in
    ap (filter (in_words words)) (range_split 0 pages pages left (length words * 64) (omega (arith, fits))
    (omega arith))
    ∙ filter-append (in_words words) (range_with_len 0 pages) (range_with_len pages left)
    ∙ ap (λ (l : List ℕ). here ++ l) (none_kept (in_words words) pages left
    (λ page low high. absent (in_words words page) (λ is. omega (arith, low, real page is))))
    ∙ append-nil here
