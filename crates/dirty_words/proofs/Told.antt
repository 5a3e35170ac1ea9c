-- What seats know stays true at each event, and the seat that made the event knows more by it.
use Rattle.std.proofs.Common.{◌≡◌, ◌≢◌, ℕ, ◌/◌, ◌%◌, ◌^◌, ◌<◌, ◌&&◌, ◌||◌, not, eqb, ◌∷◌, length}
use Rattle.std.proofs.Common.{get_or, Some, None, refl, sym, ap, ◌∙◌, arith}
use Rattle.std.specs.Prelude.{IsTrue}
use Rattle.std.specs.Int.{bit_at}
use Rattle.std.proofs.lemmas.Bool.{eqb-true, eq-eqb, ne_eqb, and_parts, and_from, or_cases}
use Rattle.std.proofs.Math.Bool.{or-false, and-true}
use Rattle.dirty_core.specs.declared.event.Event.TheVariants.{Store, Mark, Harvest, Restore, Read}
use Rattle.page_bitmap.specs.Pages.{PageSet, in_words, one_page, word_pages, bit_pages, union, common, minus, IsWithin}
use Rattle.page_bitmap.specs.Pages.{SamePages}
use Rattle.dirty_core.specs.Start.{Start, GuestOwns, CopierOwns, copier_of, word_copier}
use Rattle.dirty_core.specs.Machine.{DirtyCore, is_stored, after}
use Rattle.dirty_core.specs.Runs.{IsOnlyDue}
use Rattle.dirty_core.proofs.EveryPage.{put_at, put_else, set_at, set_else, stored_still, either}
use Rattle.page_bitmap.proofs.Bits.{added, removed, page_bit_pages}
use Rattle.dirty_words.specs.Facts.{Facts, of_guest, of_copier, GuestFacts, CopyFacts, page_bit, bits_less, fresh_after}
use Rattle.dirty_words.specs.Facts.{after_store, after_mark, after_harvest, after_peek, after_restore, after_read}
use Rattle.dirty_words.specs.Shows.{TellsGuest, TellsCopier, Tells}
use Rattle.dirty_words.proofs.Seating.{IsSameSeat}
use Rattle.dirty_words.proofs.Words.{cleared, less_parts}

-- ---- a guest's events

pub Tells-store : (start : Start) (core : DirtyCore) (mine : GuestFacts) (page place : ℕ) (other : Facts)
    → GuestOwns core.sizes mine.number page
    → (IsSameSeat (of_guest mine) other → ⊥) → Tells start core other
    → Tells start (after core (Store mine.number page place)) other
Tells-store start core mine page place (of_guest f) owns apart told = record {
  start_is = told.start_is;
  stores = told.stores ∙ sym (put_else core.stores mine.number _ f.number (λ e. apart (sym e)));
  pending = told.pending ∙ sym (put_else core.pending mine.number _ f.number (λ e. apart (sym e)));
}
Tells-store start core mine page place (of_copier f) owns apart told = record {
  start_is = told.start_is;
  held = told.held;
  reads = told.reads;
  returned = told.returned;
  fresh = λ q shown. stored_still core mine.number page place q owns.owner (told.fresh q shown);
}

pub Tells-stored : (start : Start) (core : DirtyCore) (mine : GuestFacts) (page place : ℕ) → TellsGuest start core mine
    → TellsGuest start (after core (Store mine.number page place)) (after_store page place mine)
Tells-stored start core mine page place told = record {
  start_is = told.start_is;
  stores = ap (λ v. (page, place) ∷ v) told.stores ∙ sym (put_at core.stores mine.number _ mine.number refl);
  pending = sym (put_at core.pending mine.number (Some page) mine.number refl);
}

pub Tells-mark : (start : Start) (core : DirtyCore) (mine : GuestFacts) (other : Facts)
    → (IsSameSeat (of_guest mine) other → ⊥) → Tells start core other
    → Tells start (after core (Mark mine.number)) other
Tells-mark start core mine (of_guest f) apart told = record {
  start_is = told.start_is;
  stores = told.stores;
  pending = told.pending ∙ sym (put_else core.pending mine.number _ f.number (λ e. apart (sym e)));
}
Tells-mark start core mine (of_copier f) apart told =
    record {
      start_is = told.start_is;
      held = told.held;
      reads = told.reads;
      returned = told.returned;
      fresh =
          told.fresh;
    }

pub Tells-marked : (start : Start) (core : DirtyCore) (mine : GuestFacts) → TellsGuest start core mine
    → TellsGuest start (after core (Mark mine.number)) (after_mark mine)
Tells-marked start core mine told = record {
  start_is = told.start_is;
  stores = told.stores;
  pending = sym (put_at core.pending mine.number None mine.number refl);
}

-- ---- a copier's events

-- pages of another copier are not in the word
not_in_word : (core : DirtyCore) (copier word page other : ℕ) → CopierOwns core.sizes copier word → other ≢ copier
    → copier_of core.sizes page ≡ other
    → page / 64 ≢ word
not_in_word core copier word page other owns apart own e = apart (sym own ∙ ap (word_copier core.sizes) e ∙ owns.owner)

pub Tells-harvest : (start : Start) (core : DirtyCore) (mine : CopyFacts) (word : ℕ) (other : Facts)
    → CopierOwns core.sizes mine.number word
    → (IsSameSeat (of_copier mine) other → ⊥) → Tells start core other
    → Tells start (after core (Harvest mine.number word)) other
Tells-harvest start core mine word (of_guest f) owns apart told =
    record { start_is = told.start_is; stores = told.stores; pending = told.pending }
Tells-harvest start core mine word (of_copier f) owns apart told =
    let far : f.number ≢ mine.number = λ e. apart (sym e) in
    record {
      start_is = told.start_is;
      held = λ p. told.held p ∙ sym (set_else core.held mine.number
          (union (core.held mine.number) (common (word_pages word) core.marked)) f.number p far);
      reads = told.reads;
      returned = λ p own.
          told.returned p own
          ∙ sym (ap (λ b. core.returned p && not b) (ne_eqb (p / 64) word
          (not_in_word core mine.number word p f.number owns far own)) ∙ and-true _);
      fresh = told.fresh;
    }

pub Tells-restore : (start : Start) (core : DirtyCore) (mine : CopyFacts) (word bits : ℕ) (other : Facts)
    → CopierOwns core.sizes mine.number word
    → (IsSameSeat (of_copier mine) other → ⊥) → Tells start core other
    → Tells start (after core (Restore mine.number word bits)) other
Tells-restore start core mine word bits (of_guest f) owns apart told =
    record { start_is = told.start_is; stores = told.stores; pending = told.pending }
Tells-restore start core mine word bits (of_copier f) owns apart told =
    let far : f.number ≢ mine.number = λ e. apart (sym e) in
    record {
      start_is = told.start_is;
      held = λ p. told.held p ∙ sym (set_else core.held mine.number
          (minus (core.held mine.number) (bit_pages word bits)) f.number p far);
      reads = told.reads;
      returned = λ p own.
          told.returned p own
          ∙ sym (ap (λ b. core.returned p || (b && eqb (bit_at bits (p % 64)) 1))
          (ne_eqb (p / 64) word (not_in_word core mine.number word p f.number owns far own))
          ∙ or-false _);
      fresh = told.fresh;
    }

pub Tells-read : (start : Start) (core : DirtyCore) (mine : CopyFacts) (page : ℕ) (other : Facts)
    → (IsSameSeat (of_copier mine) other → ⊥) → Tells start core other
    → Tells start (after core (Read mine.number page)) other
Tells-read start core mine page (of_guest f) apart told =
    record { start_is = told.start_is; stores = told.stores; pending = told.pending }
Tells-read start core mine page (of_copier f) apart told =
    let far : f.number ≢ mine.number = λ e. apart (sym e) in
    record {
      start_is = told.start_is;
      held = λ p. told.held p ∙ sym (set_else core.held mine.number (minus (core.held mine.number) (one_page page))
          f.number p far);
      reads = told.reads ∙ sym (put_else core.reads mine.number _ f.number far);
      returned = told.returned;
      fresh = told.fresh;
    }

one_not_zero : (n : ℕ) → n ≡ 1 → n ≡ 0 → ⊥
one_not_zero n one none = omega arith

-- the fresh pages of an answer were stored: they are marked and not returned
fresh_stored : (start : Start) (core : DirtyCore) (mine : CopyFacts) (word answer : ℕ)
    → CopierOwns core.sizes mine.number word
    → word < length mine.fresh → ((page : ℕ) → IsOnlyDue core page) → TellsCopier start core mine
    → SamePages (bit_pages word answer) (common (word_pages word) core.marked)
    → IsWithin (in_words (fresh_after word answer mine)) (is_stored core)
fresh_stored start core mine word answer owns within due told is page shown =
    let returned : ℕ = get_or mine.returned word 0 in
    either (λ before. told.fresh page before)
    (λ new.
    let parts = less_parts word answer returned page new in
    let in_answer : IsTrue (bit_pages word answer page) = and_from _ _ (eq-eqb _ _ parts.0) (eq-eqb _ _ parts.1) in
    let marked : IsTrue (core.marked page) = (and_parts _ _ (sym (is page) ∙ in_answer)).1 in
    let own : copier_of core.sizes page ≡ mine.number = ap (word_copier core.sizes) parts.0 ∙ owns.owner in
    let not_returned : IsTrue (core.returned page) → ⊥ = λ back.
    let bit : bit_at (get_or mine.returned (page / 64) 0) (page % 64) ≡ 1 =
    eqb-true _ _ (told.returned page own ∙ back) in
    let bit' : bit_at returned (page % 64) ≡ 1 = ap (λ w. bit_at (get_or mine.returned w 0) (page % 64)) (sym parts.0)
    ∙ bit in
    let none : bit_at returned (page % 64) ≡ 0 = parts.2 in
    one_not_zero _ bit' none in
    either (λ stored. stored) (λ back. absurd (not_returned back)) (due page marked))
    (or_cases _ _ (sym (added mine.fresh word (bits_less answer returned) page within) ∙ shown))

pub Tells-harvested : (start : Start) (core : DirtyCore) (mine : CopyFacts) (word answer : ℕ)
    → CopierOwns core.sizes mine.number word
    → word < length mine.held → word < length mine.returned → word < length mine.fresh
    → ((page : ℕ) → IsOnlyDue core page) → TellsCopier start core mine
    → SamePages (bit_pages word answer) (common (word_pages word) core.marked)
    → TellsCopier start (after core (Harvest mine.number word)) (after_harvest word answer mine)
Tells-harvested start core mine word answer owns in_held in_returned in_fresh due told is =
    let taken : PageSet = union (core.held mine.number) (common (word_pages word) core.marked) in
    record {
      start_is = told.start_is;
      held = λ p.
          added mine.held word answer p in_held ∙ ap (λ b. b || bit_pages word answer p) (told.held p)
          ∙ ap (λ b. core.held mine.number p || b) (is p) ∙ sym (set_at core.held mine.number taken mine.number p refl);
      reads = told.reads;
      returned = λ p own. cleared mine.returned word p in_returned
          ∙ ap (λ b. b && not (word_pages word p)) (told.returned p own);
      fresh = fresh_stored start core mine word answer owns in_fresh due told is;
    }

pub Tells-peeked : (start : Start) (core : DirtyCore) (mine : CopyFacts) (word answer : ℕ)
    → CopierOwns core.sizes mine.number word
    → word < length mine.fresh → ((page : ℕ) → IsOnlyDue core page) → TellsCopier start core mine
    → SamePages (bit_pages word answer) (common (word_pages word) core.marked)
    → TellsCopier start core (after_peek word answer mine)
Tells-peeked start core mine word answer owns in_fresh due told is = record {
  start_is = told.start_is;
  held = told.held;
  reads = told.reads;
  returned = told.returned;
  fresh = fresh_stored start core mine word answer owns in_fresh due told is;
}

pub Tells-restored : (start : Start) (core : DirtyCore) (mine : CopyFacts) (word bits : ℕ)
    → word < length mine.held → word < length mine.returned → bits < 2 ^ 64 → TellsCopier start core mine
    → TellsCopier start (after core (Restore mine.number word bits)) (after_restore word bits mine)
Tells-restored start core mine word bits in_held in_returned fits told =
    let left : PageSet = minus (core.held mine.number) (bit_pages word bits) in
    record {
      start_is = told.start_is;
      held = λ p.
          removed mine.held word bits p in_held fits ∙ ap (λ b. b && not (bit_pages word bits p)) (told.held p)
          ∙ sym (set_at core.held mine.number left mine.number p refl);
      reads = told.reads;
      returned = λ p own. added mine.returned word bits p in_returned
          ∙ ap (λ b. b || bit_pages word bits p) (told.returned p own);
      fresh = told.fresh;
    }

pub Tells-reading : (start : Start) (core : DirtyCore) (mine : CopyFacts) (page place : ℕ)
    → page / 64 < length mine.held → page_bit page < 2 ^ 64 → place ≡ core.place page → TellsCopier start core mine
    → TellsCopier start (after core (Read mine.number page)) (after_read page place mine)
Tells-reading start core mine page place in_held fits is told =
    let left : PageSet = minus (core.held mine.number) (one_page page) in
    record {
      start_is = told.start_is;
      held = λ p.
          removed mine.held (page / 64) (page_bit page) p in_held fits
          ∙ ap (λ b. in_words mine.held p && not b) (page_bit_pages page p)
          ∙ ap (λ b. b && not (one_page page p)) (told.held p)
          ∙ sym (set_at core.held mine.number left mine.number p refl);
      reads =
          ap (λ n. (page, n) ∷ mine.reads) is ∙ ap (λ v. (page, core.place page) ∷ v) told.reads
          ∙ sym (put_at core.reads mine.number _ mine.number refl);
      returned = told.returned;
      fresh = told.fresh;
    }
