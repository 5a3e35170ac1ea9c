-- What is always so of a copier's facts stays so at each step.
use Rattle.std.proofs.Common.{◌≡◌, ℕ, ◌-◌, ◌/◌, ◌^◌, ◌<◌, List, [], length, get_or, set, bit_and, sym, ap, subst, ◌∙◌}
use Rattle.std.proofs.Common.{arith}
use Rattle.std.specs.Prelude.{IsTrue}
use Rattle.std.proofs.lemmas.Bool.{eqb-true, and_parts, or_cases}
use Rattle.std.proofs.lemmas.List.{length-set, get_or_default}
use Rattle.page_bitmap.specs.Pages.{in_words, bit_pages}
use Rattle.dirty_core.specs.Start.{IsStart, sizes_of, CopierOwns}
use Rattle.dirty_core.proofs.EveryPage.{either, minus_part}
use Rattle.page_bitmap.proofs.Bits.{added, removed}
use Rattle.dirty_words.specs.Facts.{CopyFacts, OwnsWord, CopyFits, page_bit, after_harvest, after_restore, after_read}
use Rattle.dirty_words.specs.Plays.{copier_in, lone_copier, IsAnswer}
use Rattle.dirty_words.specs.Invariants.{copy_facts, IsCopySeat}
use Rattle.dirty_words.specs.declared.copier.CopySeat.TheInside.{Inside as CopyFields}
use Rattle.dirty_words.proofs.Steps.{page_bit_fits}

pub CopyFits-harvest : (facts : CopyFacts) (word answer : ℕ) → CopyFits facts → OwnsWord facts word
    → word < length facts.start.dirty → IsAnswer facts word answer
    → CopyFits (after_harvest word answer facts)
CopyFits-harvest facts word answer fits owns low is =
    let in_held : word < length facts.held = let n = fits.held_words in omega arith in
    record {
      number = fits.number;
      held_words = length-set facts.held word _ ∙ fits.held_words;
      returned_words = length-set facts.returned word 0 ∙ fits.returned_words;
      fresh_words = length-set facts.fresh word _ ∙ fits.fresh_words;
      held = λ page in_new. either (λ was. fits.held page was)
          (λ new.
          let e : page / 64 ≡ word = eqb-true _ _ (and_parts _ _ new).0 in
          record {
            page_real = is.real page new;
            word = subst (λ w. CopierOwns (sizes_of facts.start) facts.number w)
                (sym e) owns;
          })
          (or_cases (in_words facts.held page) (bit_pages word answer page)
          (sym (added facts.held word answer page in_held) ∙ in_new));
    }

fewer_held : (facts : CopyFacts) (word bits page : ℕ) → word < length facts.held → bits < 2 ^ 64
    → IsTrue (in_words (set facts.held word (bit_and (get_or facts.held word 0) (18_446_744_073_709_551_615 - bits)))
    page) → IsTrue (in_words facts.held page)
fewer_held facts word bits page within fits in_new =
    (minus_part (in_words facts.held page) (bit_pages word bits page)
    (sym (removed facts.held word bits page within fits) ∙ in_new)).0

pub CopyFits-restore : (facts : CopyFacts) (word bits : ℕ) → CopyFits facts → word < length facts.start.dirty
    → bits < 2 ^ 64
    → CopyFits (after_restore word bits facts)
CopyFits-restore facts word bits fits low small =
    let in_held : word < length facts.held = let n = fits.held_words in omega arith in
    record {
      number = fits.number;
      held_words = length-set facts.held word _ ∙ fits.held_words;
      returned_words = length-set facts.returned word _ ∙ fits.returned_words;
      fresh_words = fits.fresh_words;
      held = λ page in_new. fits.held page (fewer_held facts word bits page in_held small in_new);
    }

pub CopyFits-read : (facts : CopyFacts) (page place : ℕ) → CopyFits facts → page / 64 < length facts.start.dirty
    → CopyFits (after_read page place facts)
CopyFits-read facts page place fits low =
    let in_held : page / 64 < length facts.held = let n = fits.held_words in omega arith in
    record {
      number = fits.number;
      held_words = length-set facts.held (page / 64) _ ∙ fits.held_words;
      returned_words = fits.returned_words;
      fresh_words = fits.fresh_words;
      held = λ q in_new. fits.held q (fewer_held facts (page / 64) (page_bit page) q in_held (page_bit_fits page)
          in_new);
    }

-- ---- the seat's fields after a step

pub IsCopySeat-after : (old new : CopyFields) (facts : CopyFacts) → IsCopySeat old
    → new.seat.me ≡ (lone_copier facts, old.seat.me.1)
    → new.number ≡ old.number → new.copiers ≡ old.copiers → new.held.items ≡ facts.held
    → facts.number ≡ (copy_facts old).number → facts.start ≡ (copy_facts old).start → CopyFits facts → IsCopySeat new
IsCopySeat-after old new facts kept me number copiers held same_number same_start fits =
    let is : copy_facts new ≡ facts = ap (λ m. copier_in m.0) me in
    let none : old.seat.me.1 ≡ [] = ap (λ m. m.1) kept.alone in
    let start : facts.start ≡ (copy_facts new).start = ap (λ f. f.start) (sym is) in
    record {
      alone = me ∙ (λ i. (lone_copier (sym is i), none i));
      number = number ∙ kept.number ∙ sym same_number ∙ ap (λ f. f.number) (sym is);
      copiers = copiers ∙ kept.copiers ∙ ap (λ k. k.copiers) (sym same_start ∙ start);
      held = held ∙ ap (λ f. f.held) (sym is);
      fits = subst (λ f. CopyFits f) (sym is) fits;
      is_start = subst (λ k. IsStart k) (sym same_start ∙ start) kept.is_start;
    }

-- a word of the held pages, read by its index and rewritten
pub held_word : (F : ℕ → ℕ) (items held : List ℕ) (word x : ℕ) → items ≡ held → word < length items
    → x ≡ get_or items word x
    → set items word (F x) ≡ set held word (F (get_or held word 0))
held_word F items held word x same within read =
    ap (λ y. set items word (F y)) (read ∙ get_or_default items word x 0 within)
    ∙ ap (λ h. set h word (F (get_or h word 0))) same
