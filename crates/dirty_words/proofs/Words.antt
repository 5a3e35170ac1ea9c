-- The words after each step show the core after its event.
use Rattle.std.proofs.Common.{◌≡◌, ◌≢◌, ℕ, zero, suc, ◌+◌, ◌*◌, ◌/◌, ◌%◌, ◌^◌, ◌<◌, false, ◌&&◌, not, eqb}
use Rattle.std.proofs.Common.{List, length, get_or, set, bit_and, refl, sym, ap, ◌∙◌, arith, inl, inr}
use Rattle.std.specs.Prelude.{IsTrue}
use Rattle.std.specs.Int.{bit_at}
use Rattle.std.proofs.lemmas.Bool.{eqb-true, eq-eqb, ne_eqb, cases_eq, and_parts}
use Rattle.std.proofs.lemmas.List.{get_or-set_same, get_or-set_other, length-set}
use Rattle.std.proofs.lemmas.Nat.Bits.{bit_at_and, bit_at_xor, bit_at-lt, bit_at-zero, same_from_bits_below}
use Rattle.std.proofs.lemmas.Nat.{div-mul-add, mod-mul-add, pow_pos}
use Rattle.std.proofs.Math.Bool.{and-true, and-false}
use Rattle.dirty_core.specs.declared.event.Event.TheVariants.{Store}
use Rattle.page_bitmap.specs.Pages.{PageSet, in_words, word_pages, bit_pages, common, minus, SamePages}
use Rattle.dirty_core.specs.Start.{Start}
use Rattle.dirty_core.specs.Machine.{DirtyCore, after}
use Rattle.dirty_core.proofs.EveryPage.{put_at, put_else}
use Rattle.page_bitmap.proofs.Bits.{here, elsewhere}
use Rattle.dirty_words.specs.Facts.{bits_less}
use Rattle.dirty_words.specs.Shows.{place_word, ShowWords}

-- ---- one word of places

pub ShowWords-store : (start : Start) (words : List ℕ) (core : DirtyCore) (guest page place : ℕ)
    → ShowWords start words core → page < length start.places → place < 2 ^ 32
    → ShowWords start (set words (place_word start page) place) (after core (Store guest page place))
ShowWords-store start words core guest page place shown real fits =
    let within : place_word start page < length words = let sized = shown.sized in omega arith in
    record {
      sized = length-set words (place_word start page) place ∙ shown.sized;
      marked = λ q low.
          let apart : q / 64 ≢ place_word start page = λ e. omega arith in
          elsewhere words (place_word start page) place q apart ∙ shown.marked q low;
      place = λ q low. elim (cases_eq q page) [
        | inl e ↦
            ap (λ p. get_or (set words (place_word start page) place) (place_word start p) 0) e
            ∙ get_or-set_same words (place_word start page) place 0 within ∙ sym (put_at core.place page place q e)
        | inr ne ↦
            let apart : place_word start q ≢ place_word start page = λ e. ne (omega arith) in
            rw get_or-set_other (shown.place q low) ∙ sym (put_else core.place page place q ne)
      ];
      small = λ q low. elim (cases_eq q page) [
        | inl e ↦ rw (put_at core.place page place q e) fits
        | inr ne ↦ rw (put_else core.place page place q ne) (shown.small q low)
      ];
    }

-- ---- one dirty word

pub ShowWords-dirty : (start : Start) (words : List ℕ) (old new : DirtyCore) (word bits : ℕ) → ShowWords start words old
    → word < length start.dirty
    → ((page : ℕ) → page / 64 < length start.dirty → in_words (set words word bits) page ≡ new.marked page)
    → ((page : ℕ) → new.place page ≡ old.place page)
    → ShowWords start (set words word bits) new
ShowWords-dirty start words old new word bits shown low marked same = record {
  sized = length-set words word bits ∙ shown.sized;
  marked = marked;
  place = λ q real.
      let apart : place_word start q ≢ word = λ e. omega arith in
      rw get_or-set_other (shown.place q real) ∙ sym (same q);
  small = λ q real. rw (same q) (shown.small q real);
}

-- a word cleared
pub cleared : (words : List ℕ) (word page : ℕ) → word < length words
    → in_words (set words word 0) page ≡ minus (in_words words) (word_pages word) page
cleared words word page within = elim (cases_eq (page / 64) word) [
  | inl e ↦
      here words word 0 page within e ∙ ap (λ n. eqb n 1) (bit_at-zero (page % 64))
      ∙ sym (ap (λ b. in_words words page && not b) (eq-eqb (page / 64) word e) ∙ and-false _)
  | inr ne ↦
      elsewhere words word 0 page ne
      ∙ sym (ap (λ b. in_words words page && not b) (ne_eqb (page / 64) word ne) ∙ and-true _)
]

-- what a dirty word has, read or swapped out, is the word's marked pages
pub word_marked : (words : List ℕ) (marked : PageSet) (word : ℕ)
    → ((page : ℕ) → page / 64 ≡ word → in_words words page ≡ marked page)
    → SamePages (bit_pages word (get_or words word 0)) (common (word_pages word) marked)
word_marked words marked word shown page = elim (cases_eq (page / 64) word) [
  | inl e ↦
      ap (λ b. b && eqb (bit_at (get_or words word 0) (page % 64)) 1) (eq-eqb (page / 64) word e)
      ∙ ap (λ w. eqb (bit_at (get_or words w 0) (page % 64)) 1) (sym e) ∙ shown page e
      ∙ sym (ap (λ b. b && marked page) (eq-eqb (page / 64) word e))
  | inr ne ↦
      ap (λ b. b && eqb (bit_at (get_or words word 0) (page % 64)) 1) (ne_eqb (page / 64) word ne)
      ∙ sym (ap (λ b. b && marked page) (ne_eqb (page / 64) word ne))
]

-- ---- the bits of one number that are not in another

pub less_parts : (word a b page : ℕ) → IsTrue (bit_pages word (bits_less a b) page)
    → (page / 64 ≡ word) × (bit_at a (page % 64) ≡ 1) × (bit_at b (page % 64) ≡ 0)
less_parts word a b page told =
    let parts = and_parts _ _ told in
    let one : bit_at (bits_less a b) (page % 64) ≡ 1 = eqb-true _ _ parts.1 in
    let xor = bit_at_xor a (bit_and a b) (page % 64) in
    let and = bit_at_and a b (page % 64) in
    let low_a = bit_at-lt a (page % 64) in
    let low_b = bit_at-lt b (page % 64) in
    (eqb-true _ _ parts.0, omega (arith, one, xor, and, low_a, low_b), omega (arith, one, xor, and, low_a, low_b))

-- ---- words without pages

no_one : (n : ℕ) → n < 2 → eqb n 1 ≡ false → n ≡ 0
no_one zero low none = refl
no_one (suc zero) low none = absurd cc
no_one (suc (suc n)) low none = absurd (omega arith)

pub no_pages : (words : List ℕ) (word : ℕ) → get_or words word 0 < 2 ^ 64 → ((page : ℕ) → in_words words page ≡ false)
    → get_or words word 0 ≡ 0
no_pages words word fits none = same_from_bits_below 64 (get_or words word 0) 0 fits (pow_pos 64) (λ i low.
    let page : ℕ = word * 64 + i in
    let e : page / 64 ≡ word = div-mul-add word 64 i low in
    let f : page % 64 ≡ i = mod-mul-add word 64 i low in
    let off : eqb (bit_at (get_or words word 0) i) 1 ≡ false = rw (e, f) at (none page) in
    no_one _ (bit_at-lt (get_or words word 0) i) off ∙ sym (bit_at-zero i))
