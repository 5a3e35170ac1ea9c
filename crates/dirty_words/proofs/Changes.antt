-- What each answer of a step changes in a copier's facts, as sets of pages.
use Rattle.std.proofs.Common.{◌≡◌, ◌⊎◌, ℕ, ◌+◌, ◌%◌, ◌/◌, ◌^◌, ◌<◌, min, ◌&&◌, not, eqb, length, get_or, bit_and, sym}
use Rattle.std.proofs.Common.{ap, subst, ◌∙◌, arith, inl, inr}
use Rattle.std.specs.Prelude.{IsTrue}
use Rattle.std.specs.Int.{bit_at}
use Rattle.std.proofs.lemmas.Bool.{eqb-true, eq-eqb, cases_eq, and_parts, and_from, or_left, or_right}
use Rattle.std.proofs.lemmas.Nat.Bits.{bit_at_and, bit_at_xor, bit_at-lt}
use Rattle.page_bitmap.specs.Pages.{in_words, one_page, word_pages, bit_pages, union, minus, IsWithin, SamePages}
use Rattle.dirty_core.specs.Start.{IsStart}
use Rattle.dirty_core.proofs.EveryPage.{either}
use Rattle.page_bitmap.proofs.Bits.{added, removed, within, page_bit_pages}
use Rattle.dirty_words.specs.Facts.{CopyFacts, OwnsWord, CopyFits, page_bit, bits_less, fresh_after, after_harvest}
use Rattle.dirty_words.specs.Facts.{after_peek, after_restore, after_read}
use Rattle.dirty_words.specs.Plays.{MakesFresh}
use Rattle.dirty_words.proofs.Words.{cleared}
use Rattle.dirty_words.proofs.Steps.{own_word_low, word_low, page_bit_fits}

pub within_held : (facts : CopyFacts) (word bits : ℕ) → bits < 2 ^ 64 → bit_and (get_or facts.held word 0) bits ≡ bits
    → IsWithin (bit_pages word bits) (in_words facts.held)
within_held facts word bits fits all = (within facts.held word bits fits).0 (eq-eqb _ _ all)

bit_or_none : (a b xor and : ℕ) → a ≡ 1 → b < 2 → xor ≡ (a + and) % 2 → and ≡ min a b → (b ≡ 1) ⊎ (xor ≡ 1)
bit_or_none a b xor and one low x m = elim (cases_eq b 1) [
  | inl e ↦ inl e
  | inr ne ↦ inr (omega arith)
]

pub MakesFresh-after : (facts : CopyFacts) (word answer : ℕ) (new : CopyFacts) → word < length facts.fresh
    → new.fresh ≡ fresh_after word answer facts
    → MakesFresh facts word answer new
MakesFresh-after facts word answer new low is =
    let returned : ℕ = get_or facts.returned word 0 in
    let less : ℕ = bits_less answer returned in
    let now : (page : ℕ) → IsTrue (in_words facts.fresh page) ⊎ IsTrue (bit_pages word less page)
    → IsTrue (in_words new.fresh page) =
    λ page either_way. subst (λ ws. IsTrue (in_words ws page)) (sym is)
    (added facts.fresh word less page low ∙ either (λ was. or_left _ _ was)
    (λ new. or_right (in_words facts.fresh page) _ new) either_way) in
    record {
      shown = λ page told.
          let parts = and_parts (eqb (page / 64) word) (eqb (bit_at answer (page % 64)) 1) told in
          let e : page / 64 ≡ word = eqb-true _ _ parts.0 in
          either
          (λ was. inl (eq-eqb _ _ (ap (λ w. bit_at (get_or facts.returned w 0) (page % 64)) e ∙ was)))
          (λ new_bit. inr (now page (inr (and_from _ _ parts.0 (eq-eqb _ _ new_bit)))))
          (bit_or_none (bit_at answer (page % 64)) (bit_at returned (page % 64)) (bit_at less (page % 64))
          (bit_at (bit_and answer returned) (page % 64))
          (eqb-true _ _ parts.1) (bit_at-lt returned (page % 64))
          (bit_at_xor answer (bit_and answer returned) (page % 64)) (bit_at_and answer returned (page % 64)));
      kept = λ page was. now page (inl was);
    }

-- what is known of the copier before the step
pub record Before (facts : CopyFacts) : Type 0 where
  pub fits : CopyFits facts
  pub is_start : IsStart facts.start

pub harvest_changes : (old new : CopyFacts) (word answer : ℕ) → Before old → OwnsWord old word
    → new ≡ after_harvest word answer old
    → SamePages (in_words new.held) (union (in_words old.held) (bit_pages word answer))
    × SamePages (in_words new.returned) (minus (in_words old.returned) (word_pages word))
    × MakesFresh old word answer new
harvest_changes old new word answer before owns is =
    let low : word < length old.start.dirty = own_word_low old word before.is_start owns in
    let in_held : word < length old.held = let n = before.fits.held_words in omega arith in
    let in_returned : word < length old.returned = let n = before.fits.returned_words in omega arith in
    let in_fresh : word < length old.fresh = let n = before.fits.fresh_words in omega arith in (
      λ page. ap (λ f. in_words f.held page) is ∙ added old.held word answer page in_held,
      λ page. ap (λ f. in_words f.returned page) is ∙ cleared old.returned word page in_returned,
      MakesFresh-after old word answer new in_fresh (ap (λ f. f.fresh) is),
    )

pub peek_changes : (old new : CopyFacts) (word answer : ℕ) → Before old → OwnsWord old word
    → new ≡ after_peek word answer old → MakesFresh old word answer new
peek_changes old new word answer before owns is =
    let low : word < length old.start.dirty = own_word_low old word before.is_start owns in
    let in_fresh : word < length old.fresh = let n = before.fits.fresh_words in omega arith in
    MakesFresh-after old word answer new in_fresh (ap (λ f. f.fresh) is)

pub restore_changes : (old new : CopyFacts) (word bits : ℕ) → Before old → OwnsWord old word → bits < 2 ^ 64
    → new ≡ after_restore word bits old
    → SamePages (in_words new.held) (minus (in_words old.held) (bit_pages word bits))
    × SamePages (in_words new.returned) (union (in_words old.returned) (bit_pages word bits))
restore_changes old new word bits before owns small is =
    let low : word < length old.start.dirty = own_word_low old word before.is_start owns in
    let in_held : word < length old.held = let n = before.fits.held_words in omega arith in
    let in_returned : word < length old.returned = let n = before.fits.returned_words in omega arith in (
      λ page. ap (λ f. in_words f.held page) is ∙ removed old.held word bits page in_held small,
      λ page. ap (λ f. in_words f.returned page) is ∙ added old.returned word bits page in_returned,
    )

pub read_changes : (old new : CopyFacts) (page place : ℕ) → Before old → IsTrue (in_words old.held page)
    → new ≡ after_read page place old
    → SamePages (in_words new.held) (minus (in_words old.held) (one_page page))
read_changes old new page place before held is other =
    let low : page / 64 < length old.start.dirty = word_low old.start page before.is_start
    (before.fits.held page held).page_real in
    let in_held : page / 64 < length old.held = let n = before.fits.held_words in omega arith in
    ap (λ f. in_words f.held other) is ∙ removed old.held (page / 64) (page_bit page) other in_held (page_bit_fits page)
    ∙ ap (λ b. in_words old.held other && not b) (page_bit_pages page other)
