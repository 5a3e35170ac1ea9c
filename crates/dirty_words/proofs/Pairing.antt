-- What a table of one guest and one copier leaves, for the tests.
use Rattle.std.proofs.Common.{◌≡◌, ℕ, ◌<◌, ◌/◌, ◌%◌, Bool, true, false, cond, Option, None, List, [], ◌∷◌, length, Some}
use Rattle.std.proofs.Common.{sym, ap, subst, ◌∙◌, arith, inl, inr, zero, suc, ◌+◌, map}
use Rattle.std.specs.Prelude.{IsTrue, slice_index, slice_get}
use Rattle.std.proofs.lemmas.Bool.{cases_eq, eq-eqb, ne_eqb}
use Rattle.std.specs.List.{range_with_len}
use Rattle.std.proofs.lemmas.List.FromFn.{length-map-range_with_len}
use Rattle.page_bitmap.specs.Pages.{in_words}
use Rattle.page_bitmap.proofs.Bits.{no_words}
use Rattle.dirty_core.specs.Start.{Start, sizes_of, guest_of, copier_of}
use Rattle.dirty_core.specs.Machine.{last_visit}
use Rattle.dirty_core.proofs.EveryPage.{either}
use Rattle.dirty_words.specs.Facts.{GuestFacts, CopyFacts, first_guest, first_copier}
use Rattle.dirty_words.specs.Seats.{TableView, GuestView, CopyView, ClosedView, guest_view, copy_view, guest_table}
use Rattle.dirty_words.specs.Seats.{copy_table}
use Rattle.dirty_words.specs.Closing.{EachPageLeft, first_guests, first_copiers, AllGuests, AllCopiers}
use Rattle.dirty_words.specs.Pairs.{with_read, UnmarkedWasRead, UnmarkedIsRead}

on_off : (b : Bool) → b ≡ true → b ≡ false → ⊥
on_off b on off = absurd cc

-- the one seat of a list is that of each number below 1
only_seat : {A : Type 0} (xs : List A) (x : A) (number : ℕ) → xs ≡ x ∷ [] → number ≡ 0 → slice_get xs number ≡ Some x
only_seat xs x number is none = ap (λ l. slice_get l number) is ∙ ap (slice_get (x ∷ [])) none

pub UnmarkedWasRead-pair : (start : Start) (guests : List GuestView) (copiers : List CopyView) (guest : GuestView)
    (copier : CopyView) (closed : ClosedView)
    → start.guests ≡ 1 → start.copiers ≡ 1 → guests ≡ guest ∷ [] → copiers ≡ copier ∷ []
    → EachPageLeft start guests copiers closed
    → UnmarkedWasRead start guest.facts copier.facts closed
UnmarkedWasRead-pair start guests copiers guest copier closed one_guest one_copier gs cs left page low before off =
    let g : guest_of (sizes_of start) page ≡ 0 = ap (λ n. page % n) one_guest ∙ first page in
    let c : copier_of (sizes_of start) page ≡ 0 = ap (λ n. page / 64 % n) one_copier ∙ first (page / 64) in
    either (λ marked. absurd (on_off _ marked off)) (λ read. read)
    ((left page guest copier low (only_seat guests guest _ gs g) (only_seat copiers copier _ cs c)).caught_up before)
  where
    first : (n : ℕ) → n % 1 ≡ 0
    first n = omega arith

-- the last visit of a page among one read at most
one_read : (one : ℕ) (read : Option ℕ) (page place : ℕ) → last_visit (with_read one read []) page ≡ Some place
    → (page ≡ one) × (read ≡ Some place)
one_read one None page place is = absurd cc
one_read one (Some n) page place is = elim (cases_eq one page) [
  | inl e ↦ (sym e, sym (ap (λ b. cond b (Some n) None) (eq-eqb one page e)) ∙ is)
  | inr ne ↦ absurd (let none : None ≡ Some place = sym (ap (λ b. cond b (Some n) None) (ne_eqb one page ne))
      ∙ is in cc)
]

pub UnmarkedIsRead-pair : (start opening : Start) (guest : GuestFacts) (copier : CopyFacts) (closed : ClosedView)
    (one : ℕ) (read : Option ℕ)
    → start ≡ opening → copier.reads ≡ with_read one read [] → UnmarkedWasRead start guest copier closed
    → UnmarkedIsRead opening one read closed
UnmarkedIsRead-pair start opening guest copier closed one read same reads was page low marked off =
    one_read one read page (slice_index closed.versions page)
    (ap (λ v. last_visit v page) (sym reads)
    ∙ was page (subst (λ k. page < length k.places) (sym same) low)
    (inl (subst (λ k. IsTrue (in_words k.dirty page)) (sym same) marked)) off)

-- ---- all seats of a table that has just been opened

in_first : {A : Type 0} (f : ℕ → A) (number count i : ℕ) (x : A)
    → slice_get (map f (range_with_len number count)) i ≡ Some x → x ≡ f (number + i)
in_first f number zero i x e = absurd cc
in_first f number (suc count) zero x e = let is : f number ≡ x = cc in let same : number ≡ number + 0 =
    omega arith in sym is ∙ ap f same
in_first f number (suc count) (suc i) x e =
    let same : (number + 1) + i ≡ number + suc i = omega arith in in_first f (number + 1) count i x e ∙ ap f same

pub AllGuests-first : (table : TableView) → AllGuests table (first_guests table)
AllGuests-first table = record {
  count = length-map-range_with_len (λ number. guest_view table.id (first_guest table.start number)) 0
      table.start.guests;
  each = λ number guest there.
      let is = in_first (λ n. guest_view table.id (first_guest table.start n)) 0 table.start.guests number guest
      there in
      let same : 0 + number ≡ number = omega arith in
      record {
        table_is = ap guest_table is;
        number_is = ap (λ g. g.facts.number) is ∙ same;
        pending =
            ap (λ g. g.facts.pending) is;
      };
}

pub AllCopiers-first : (table : TableView) → AllCopiers table (first_copiers table)
AllCopiers-first table = record {
  count = length-map-range_with_len (λ number. copy_view table.id (first_copier table.start number)) 0
      table.start.copiers;
  each = λ number copier there.
      let is = in_first (λ n. copy_view table.id (first_copier table.start n)) 0 table.start.copiers number copier
      there in
      let same : 0 + number ≡ number = omega arith in
      record {
        table_is = ap copy_table is;
        number_is = ap (λ k. k.facts.number) is ∙ same;
        held = λ page. ap (λ k. in_words k.facts.held page) is ∙ no_words (length table.start.dirty) page;
      };
}
