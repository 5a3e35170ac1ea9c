-- Sets of pages after a write to one of their words.
use Rattle.std.proofs.Common.{◌≡◌, ◌≢◌, ℕ, zero, suc, ◌+◌, ◌-◌, ◌*◌, ◌/◌, ◌%◌, ◌^◌, ◌<◌, ◌≤◌, min, max, Bool, true}
use Rattle.std.proofs.Common.{false, not, ◌&&◌, ◌||◌, eqb, List, [], ◌++◌, length, get_or, set, take, drop, bit_and}
use Rattle.std.proofs.Common.{bit_or, refl, sym, ap, ◌∙◌, arith, inl, inr, w64, replicate}
use Rattle.std.specs.Prelude.{IsTrue, ◌↔◌}
use Rattle.std.specs.Int.{bit_at}
use Rattle.std.proofs.lemmas.Bool.{eqb-true, eq-eqb, ne_eqb, cases_eq, cases_lt, and_parts, and_from}
use Rattle.std.proofs.lemmas.List.{append-nil, drop_all, take_all, get_or-set_same, get_or-set_other, get_or_past}
use Rattle.std.proofs.lemmas.Nat.{shr-shr, div-mul-add, mod-mul-add, and_le_r, one_shl, mod_below, div-add-mod', shr_le}
use Rattle.std.proofs.lemmas.Nat.{pow_pos}
use Rattle.std.proofs.lemmas.Nat.Bits.{bit_at_or, bit_at_and, bit_at_not, bit_at-lt, bit_at_above, same_from_bits_below}
use Rattle.std.proofs.lemmas.Nat.Bits.{bit_at-pow_same, bit_at-pow_other, bit_at-zero}
use Rattle.std.proofs.Math.Bool.{or-false}
use Rattle.page_bitmap.specs.Pages.{in_words, one_page, bit_pages, union, minus, IsWithin}
use Rattle.migration_model.proofs.Lists.{get_or-replicate_default}

or_test : (x y : ℕ) → x < 2 → y < 2 → eqb (max x y) 1 ≡ (eqb x 1 || eqb y 1)
or_test zero zero a b = refl
or_test zero (suc zero) a b = refl
or_test (suc zero) zero a b = refl
or_test (suc zero) (suc zero) a b = refl
or_test x (suc (suc y)) a b = absurd (omega arith)
or_test (suc (suc x)) y a b = absurd (omega arith)

without_test : (x y : ℕ) → x < 2 → y < 2 → eqb (min x (1 - y)) 1 ≡ (eqb x 1 && not (eqb y 1))
without_test zero zero a b = refl
without_test zero (suc zero) a b = refl
without_test (suc zero) zero a b = refl
without_test (suc zero) (suc zero) a b = refl
without_test x (suc (suc y)) a b = absurd (omega arith)
without_test (suc (suc x)) y a b = absurd (omega arith)

and_true : (b : Bool) → b ≡ (b && true)
and_true true = refl
and_true false = refl

-- the pages of a word that was written
pub here : (ws : List ℕ) (i n page : ℕ) → i < length ws → page / 64 ≡ i
    → in_words (set ws i n) page ≡ eqb (bit_at n (page % 64)) 1
here ws i n page within e = rw (e, get_or-set_same) refl

-- a write to one word leaves all pages of other words as they are
pub elsewhere : (ws : List ℕ) (i n page : ℕ) → page / 64 ≢ i → in_words (set ws i n) page ≡ in_words ws page
elsewhere ws i n page ne = rw get_or-set_other refl

pub added : (ws : List ℕ) (i b page : ℕ) → i < length ws
    → in_words (set ws i (bit_or (get_or ws i 0) b)) page ≡ union (in_words ws) (bit_pages i b) page
added ws i b page within = elim (cases_eq (page / 64) i) [
  | inl e ↦
      here ws i _ page within e
      ∙ ap (λ n. eqb n 1) (bit_at_or (get_or ws i 0) b (page % 64))
      ∙ or_test _ _ (bit_at-lt (get_or ws i 0) (page % 64)) (bit_at-lt b (page % 64))
      ∙ rw (e, eq-eqb i i refl) refl
  | inr ne ↦ elsewhere ws i _ page ne ∙ rw (ne_eqb (page / 64) i ne) (sym (or-false _))
]

pub removed : (ws : List ℕ) (i b page : ℕ) → i < length ws → b < 2 ^ 64
    → in_words (set ws i (bit_and (get_or ws i 0) (18_446_744_073_709_551_615 - b))) page
    ≡ minus (in_words ws) (bit_pages i b) page
removed ws i b page within fits = elim (cases_eq (page / 64) i) [
  | inl e ↦
      here ws i _ page within e
      ∙ ap (λ n. eqb n 1) (bit_at_and (get_or ws i 0) (18_446_744_073_709_551_615 - b) (page % 64)
      ∙ ap (λ n. min (bit_at (get_or ws i 0) (page % 64)) n)
      (bit_at_not w64 b (page % 64) fits (mod_below page 64 (omega arith))))
      ∙ without_test _ _ (bit_at-lt (get_or ws i 0) (page % 64)) (bit_at-lt b (page % 64))
      ∙ rw (e, eq-eqb i i refl) refl
  | inr ne ↦ elsewhere ws i _ page ne ∙ rw (ne_eqb (page / 64) i ne) (and_true _)
]

-- one bit of a word is one page
pub page_bit_pages : (page other : ℕ) → bit_pages (page / 64) (2 ^ (page % 64)) other ≡ one_page page other
page_bit_pages page other =
    elim (cases_eq (other / 64) (page / 64)) [
      | inl e ↦ elim (cases_eq (other % 64) (page % 64)) [
        | inl f ↦
            let same : other ≡ page = omega (arith, div-add-mod' other 64, div-add-mod' page 64) in
            rw (same, eq-eqb (page / 64) (page / 64) refl, bit_at-pow_same (page % 64)) (sym (eq-eqb page page refl))
        | inr ne ↦
            let apart : other ≡ page → ⊥ = λ same. ne (ap (λ n. n % 64) same) in
            rw (eq-eqb (other / 64) (page / 64) e, bit_at-pow_other (page % 64) (other % 64) ne)
            (sym (ne_eqb other page apart))
      ]
      | inr ne ↦
          let apart : other ≡ page → ⊥ = λ same. ne (ap (λ n. n / 64) same) in
          rw (ne_eqb (other / 64) (page / 64) ne) (sym (ne_eqb other page apart))
    ]

-- the bit as a shift gives it
pub shifted_page_bit : (page : ℕ) → 1 * 2 ^ (page % 64) % 18_446_744_073_709_551_616 ≡ 2 ^ (page % 64)
shifted_page_bit page = one_shl (page % 64) 64 (mod_below page 64 (omega arith))

pub one_bit : (page other : ℕ) → bit_pages (page / 64) (1 * 2 ^ (page % 64) % 18_446_744_073_709_551_616) other
    ≡ one_page page other
one_bit page other = ap (λ n. bit_pages (page / 64) n other) (shifted_page_bit page) ∙ page_bit_pages page other

-- ---- a test of some bits

kept_bit : (x y : ℕ) → x < 2 → min x y ≡ y → y ≡ 1 → x ≡ 1
kept_bit x y a b c = omega arith

kept_min : (x y : ℕ) → x < 2 → y < 2 → (y ≡ 1 → x ≡ 1) → min x y ≡ y
kept_min zero zero a b h = refl
kept_min (suc zero) zero a b h = refl
kept_min zero (suc zero) a b h = h refl
kept_min (suc zero) (suc zero) a b h = refl
kept_min x (suc (suc y)) a b h = absurd (omega arith)
kept_min (suc (suc x)) y a b h = absurd (omega arith)

pub within : (ws : List ℕ) (i b : ℕ) → b < 2 ^ 64 → (eqb (bit_and (get_or ws i 0) b) b ≡ true) ↔ IsWithin
    (bit_pages i b) (in_words ws)
within ws i b fits = (
  λ same page in_bits.
      let parts = and_parts _ _ in_bits in
      let e : page / 64 ≡ i = eqb-true _ _ parts.0 in
      let one : bit_at b (page % 64) ≡ 1 = eqb-true _ _ parts.1 in
      let both = sym (bit_at_and (get_or ws i 0) b (page % 64)) ∙ ap (λ n. bit_at n (page % 64)) (eqb-true _ _ same) in
      rw e (eq-eqb _ _ (kept_bit _ _ (bit_at-lt (get_or ws i 0) (page % 64)) both one)),
  λ all.
      eq-eqb _ _ (same_from_bits_below 64 (bit_and (get_or ws i 0) b) b
      (omega (arith, and_le_r (get_or ws i 0) b, fits)) fits (λ k low.
      let page : ℕ = i * 64 + k in
      let e : page / 64 ≡ i = div-mul-add i 64 k low in
      let f : page % 64 ≡ k = mod-mul-add i 64 k low in
      let test : eqb (bit_at b k) 1 ≡ true → eqb (bit_at (get_or ws i 0) k) 1 ≡ true =
      λ one. rw (e, f) at (all page (and_from _ _ (eq-eqb _ _ e) (rw f one))) in
      let test' : bit_at b k ≡ 1 → bit_at (get_or ws i 0) k ≡ 1 = λ one. eqb-true _ _ (test (eq-eqb _ _ one)) in
      bit_at_and (get_or ws i 0) b k ∙ kept_min _ _ (bit_at-lt (get_or ws i 0) k) (bit_at-lt b k) test')),
)

-- ---- no page past the last one

shifted_bit : (n j k : ℕ) → bit_at (n / 2 ^ j) k ≡ bit_at n (j + k)
shifted_bit n j k = ap (λ x. x % 2) (shr-shr n j k)

no_bit : (n k : ℕ) → bit_at n k < 2 → (eqb (bit_at n k) 1 ≡ true → ⊥) → bit_at n k ≡ 0
no_bit n k small none = let other : bit_at n k ≡ 1 → ⊥ = λ one. none (eq-eqb _ _ one) in omega arith

-- a page in the set has a word in the list
pub has_word : (ws : List ℕ) (page : ℕ) → in_words ws page ≡ true → page / 64 < length ws
has_word ws page in_set = elim (cases_lt (page / 64) (length ws)) [
  | inl low ↦ low
  | inr past ↦
      let one : bit_at (get_or ws (page / 64) 0) (page % 64) ≡ 1 = eqb-true _ _ in_set in
      let none : bit_at (get_or ws (page / 64) 0) (page % 64) ≡ 0 =
      rw (get_or_past ws (page / 64) 0 past) (bit_at-zero (page % 64)) in
      absurd (omega arith)
]

pub whole : (ws : List ℕ) (pages : ℕ) → length ws ≡ (pages + 63) / 64 → pages % 64 ≡ 0
    → (page : ℕ) → IsTrue (in_words ws page) → page < pages
whole ws pages len none page in_set = let low = has_word ws page in_set in omega arith

pub ends : (ws : List ℕ) (pages : ℕ) → 1 ≤ pages → length ws ≡ (pages + 63) / 64 → (pages % 64 ≡ 0 → ⊥)
    → get_or ws (length ws - 1) 0 < 2 ^ 64
    → (eqb (get_or ws (length ws - 1) 0 / 2 ^ (pages % 64)) 0 ≡ true) ↔
    ((page : ℕ) → IsTrue (in_words ws page) → page < pages)
ends ws pages some len used fits =
    let last : ℕ = get_or ws (length ws - 1) 0 in
    let at : length ws - 1 ≡ pages / 64 = omega arith in (
      λ none page in_set. elim (cases_lt page pages) [
        | inl low ↦ low
        | inr past ↦
            let word : page / 64 < length ws = has_word ws page in_set in
            let e : page / 64 ≡ length ws - 1 = omega (arith, at) in
            let k : ℕ = page % 64 - pages % 64 in
            let split : page % 64 ≡ pages % 64 + k = omega (arith, at) in
            let one : bit_at last (page % 64) ≡ 1 = rw e at (eqb-true _ _ in_set) in
            let zeros : bit_at last (page % 64) ≡ 0 =
            ap (λ n. bit_at last n) split ∙ sym (shifted_bit last (pages % 64) k)
            ∙ ap (λ n. bit_at n k) (eqb-true _ _ none) ∙ bit_at-zero k in
            absurd (omega arith)
      ],
      λ all. eq-eqb _ _ (same_from_bits_below 64 (last / 2 ^ (pages % 64)) 0
          (omega (arith, shr_le last (pages % 64), fits)) (pow_pos 64) (λ i low.
          shifted_bit last (pages % 64) i ∙ sym (bit_at-zero i ∙ sym (elim (cases_lt (pages % 64 + i) 64) [
            | inl below ↦
                let page : ℕ = (length ws - 1) * 64 + (pages % 64 + i) in
                let e : page / 64 ≡ length ws - 1 = div-mul-add (length ws - 1) 64 (pages % 64 + i) below in
                let f : page % 64 ≡ pages % 64 + i = mod-mul-add (length ws - 1) 64 (pages % 64 + i) below in
                let past : pages ≤ page = omega (arith, at) in
                no_bit last (pages % 64 + i) (bit_at-lt _ _) (λ in_set.
                let real = all page (rw (e, f) in_set) in omega (arith, past, real))
            | inr above ↦ bit_at_above last 64 (pages % 64 + i) fits above
          ])))),
    )

-- ---- a list that is written in place

-- words that are lent whole come back whole
pub whole_again : (n : ℕ) (new old : List ℕ) → length new ≡ length old → length new ≤ n
    → take n (new ++ drop (length new) old) ≡ new
whole_again n new old same fits =
    let none : drop (length new) old ≡ [] = drop_all (length new) old (omega (arith, same)) in
    ap (λ (l : List ℕ). take n (new ++ l)) none ∙ ap (take n) (append-nil new) ∙ take_all n new fits

-- words of zeros have no page
pub no_words : (n page : ℕ) → in_words (replicate n 0) page ≡ false
no_words n page =
    ap (λ x. eqb (bit_at x (page % 64)) 1) (get_or-replicate_default n (page / 64) 0)
    ∙ ap (λ x. eqb x 1) (bit_at-zero (page % 64))
