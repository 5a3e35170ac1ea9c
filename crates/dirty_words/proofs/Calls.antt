-- What each call must show before its step, from what is always so of the table and the seat.
use Rattle.std.proofs.Common.{◌≡◌, ℕ, ◌+◌, ◌-◌, ◌*◌, ◌/◌, ◌%◌, ◌^◌, ◌<◌, length, bit_or, Some, None, sym, ap, subst}
use Rattle.std.proofs.Common.{◌∙◌, arith}
use Rattle.std.specs.Prelude.{IsTrue}
use mathlib.Core.Option.{none}
use Rattle.atomic_table.specs.Table.{step, Allows}
use Rattle.page_bitmap.specs.Pages.{in_words, one_page, word_pages, bit_pages, union, minus, IsWithin, SamePages}
use Rattle.dirty_core.specs.Start.{Start, IsStart}
use Rattle.dirty_words.specs.Facts.{last_place, OwnsPage, OwnsWord, CopyFits, CopyFacts, after_harvest, after_peek}
use Rattle.dirty_words.specs.Facts.{after_restore, after_read}
use Rattle.dirty_words.specs.Plays.{stores, marks, harvests, peeks, restores, reads, MakesFresh}
use Rattle.dirty_words.specs.Shows.{place_word, Shows}
use Rattle.dirty_words.specs.Seats.{TableView, GuestView, CopyView, table_view, guest_view, copy_view, guest_table}
use Rattle.dirty_words.specs.Seats.{copy_table}
use Rattle.dirty_words.specs.Invariants.{IsTable, guest_facts, copy_facts, IsGuestSeat, IsCopySeat}
use Rattle.dirty_words.specs.declared.table.RoundTable.TheInside.{Inside as TableFields}
use Rattle.dirty_words.specs.declared.guest.GuestSeat.TheInside.{Inside as GuestFields}
use Rattle.dirty_words.specs.declared.copier.CopySeat.TheInside.{Inside as CopyFields}
use Rattle.dirty_words.proofs.Changes.{Before, harvest_changes, peek_changes, restore_changes, read_changes}
use Rattle.dirty_words.proofs.Steps.{store_allowed, mark_allowed, harvest_allowed, peek_allowed, restore_allowed}
use Rattle.dirty_words.proofs.Steps.{read_allowed, own_word_low, word_low}

-- ---- a guest's seat and a table, as a call finds them

pub record GuestCall (seat : GuestFields) (table : TableFields) (guest : GuestView) (of : TableView) : Type 0 where
  pub seat_is : guest_view seat.seat.table_id (guest_facts seat) ≡ guest
  pub seat_kept : IsGuestSeat seat
  pub table_is : table_view table.table.shared.table_id table.table.shared.key ≡ of
  pub table_kept : IsTable table
  pub same : guest_table guest ≡ of

pub guest_call : {seat : GuestFields} {table : TableFields} {guest : GuestView} {of : TableView}
    → guest_view seat.seat.table_id (guest_facts seat) ≡ guest → IsGuestSeat seat
    → table_view table.table.shared.table_id table.table.shared.key ≡ of → IsTable table → guest_table guest ≡ of
    → GuestCall seat table guest of
guest_call seat_is seat_kept table_is table_kept same =
    record { seat_is = seat_is; seat_kept = seat_kept; table_is = table_is; table_kept = table_kept; same = same }

module _ {seat : GuestFields} {table : TableFields} {guest : GuestView} {of : TableView}
    (call : GuestCall seat table guest of) where
  one_table : table_view seat.seat.table_id (guest_facts seat).start
      ≡ table_view table.table.shared.table_id table.table.shared.key
  one_table = ap guest_table call.seat_is ∙ call.same ∙ sym call.table_is

  one_id : seat.seat.table_id ≡ table.table.shared.table_id
  one_id = ap (λ t. t.id) one_table

  one_start : (guest_facts seat).start ≡ table.table.shared.key
  one_start = ap (λ t. t.start) one_table

  facts_are : guest.facts ≡ guest_facts seat
  facts_are = sym (ap (λ g. g.facts) call.seat_is)

  pub advance_asks : (page place word : ℕ) → OwnsPage guest.facts page → guest.facts.pending ≡ None
      → last_place guest.facts page < place → place < 2 ^ 32
      → word ≡ length table.dirty.items + page
      → (seat.seat.table_id ≡ table.table.shared.table_id) × (word < table.table.shared.table_id.words)
      × Allows (λ s. Shows table.table.shared.key s) table.table.shared.table_id.slots seat.seat.id seat.seat.me word
      (λ _. place)
      (λ _. stores (step table.table.shared.table_id.slots word place 0 none) seat.seat.me place)
  advance_asks page place word owns free over fits is =
      let start : Start = table.table.shared.key in
      let owned : OwnsPage (guest_facts seat) page = subst (λ f. OwnsPage f page) facts_are owns in
      let dirty : length table.dirty.items ≡ length start.dirty = ap length call.table_kept.dirty in
      let places : length table.places.items ≡ length start.places = ap length call.table_kept.places in
      let words = call.table_kept.words in
      let pages : length (guest_facts seat).start.places ≡ length start.places = ap (λ k. length k.places) one_start in
      let real = owned.page_real in
      let at : place_word start page ≡ word = omega (arith, is, dirty) in (
        one_id,
        omega (arith, is, dirty, places, words, pages, real),
        subst (λ w. Allows (λ s. Shows start s) table.table.shared.table_id.slots seat.seat.id seat.seat.me w
            (λ _. place)
            (λ _. stores (step table.table.shared.table_id.slots w place 0 none) seat.seat.me place)) at
            (store_allowed start table.table.shared.table_id.slots seat.seat.id seat.seat.me page place
            call.seat_kept.alone owned
            (subst (λ f. f.pending ≡ None) facts_are free) (subst (λ f. last_place f page < place) facts_are over)
            fits),
      )

  pub mark_asks : (page : ℕ) → seat.pending ≡ Some page
      → (seat.seat.table_id ≡ table.table.shared.table_id) × (page / 64 < table.table.shared.table_id.words)
      × Allows (λ s. Shows table.table.shared.key s) table.table.shared.table_id.slots seat.seat.id seat.seat.me
      (page / 64)
      (λ n. bit_or n (1 * 2 ^ (page % 64) % 18_446_744_073_709_551_616))
      (marks (step table.table.shared.table_id.slots (page / 64) (1 * 2 ^ (page % 64) % 18_446_744_073_709_551_616) 0
      none) seat.seat.me)
  mark_asks page some =
      let start : Start = table.table.shared.key in
      let is : (guest_facts seat).pending ≡ Some page = sym call.seat_kept.pending ∙ some in
      let owned : OwnsPage (guest_facts seat) page = call.seat_kept.fits.pending page is in
      let dirty : length table.dirty.items ≡ length start.dirty = ap length call.table_kept.dirty in
      let words = call.table_kept.words in
      let rule = call.table_kept.is_start.words in
      let pages : length (guest_facts seat).start.places ≡ length start.places = ap (λ k. length k.places) one_start in
      let real = owned.page_real in (
        one_id,
        omega (arith, dirty, words, rule, pages, real),
        mark_allowed start table.table.shared.table_id.slots seat.seat.id seat.seat.me page call.seat_kept.alone owned
            is,
      )

-- ---- a copier's seat and a table, as a call finds them

pub record CopyCall (seat : CopyFields) (table : TableFields) (copier : CopyView) (of : TableView) : Type 0 where
  pub seat_is : copy_view seat.seat.table_id (copy_facts seat) ≡ copier
  pub seat_kept : IsCopySeat seat
  pub table_is : table_view table.table.shared.table_id table.table.shared.key ≡ of
  pub table_kept : IsTable table
  pub same : copy_table copier ≡ of

pub copy_call : {seat : CopyFields} {table : TableFields} {copier : CopyView} {of : TableView}
    → copy_view seat.seat.table_id (copy_facts seat) ≡ copier → IsCopySeat seat
    → table_view table.table.shared.table_id table.table.shared.key ≡ of → IsTable table → copy_table copier ≡ of
    → CopyCall seat table copier of
copy_call seat_is seat_kept table_is table_kept same =
    record { seat_is = seat_is; seat_kept = seat_kept; table_is = table_is; table_kept = table_kept; same = same }

-- a word that the copier owns is one of the dirty words, and of the words that are held
pub record HasWord (seat : CopyFields) (word : ℕ) : Type 0 where
  pub owns : OwnsWord (copy_facts seat) word
  pub real : word < length (copy_facts seat).start.dirty
  pub within : word < length seat.held.items

module _ {seat : CopyFields} {table : TableFields} {copier : CopyView} {of : TableView}
    (call : CopyCall seat table copier of) where
  one_copy_table : table_view seat.seat.table_id (copy_facts seat).start
      ≡ table_view table.table.shared.table_id table.table.shared.key
  one_copy_table = ap copy_table call.seat_is ∙ call.same ∙ sym call.table_is

  one_copy_id : seat.seat.table_id ≡ table.table.shared.table_id
  one_copy_id = ap (λ t. t.id) one_copy_table

  one_copy_start : (copy_facts seat).start ≡ table.table.shared.key
  one_copy_start = ap (λ t. t.start) one_copy_table

  copy_facts_are : copier.facts ≡ copy_facts seat
  copy_facts_are = sym (ap (λ g. g.facts) call.seat_is)

  -- a word of the seat is one of the words that are held
  held_low : (word : ℕ) → word < length (copy_facts seat).start.dirty → word < length seat.held.items
  held_low word low =
      let n = call.seat_kept.fits.held_words in
      let m = ap length call.seat_kept.held in
      omega arith

  pub has_word : (word : ℕ) → OwnsWord copier.facts word → HasWord seat word
  has_word word owns =
      let owned : OwnsWord (copy_facts seat) word = subst (λ f. OwnsWord f word) copy_facts_are owns in
      let real = own_word_low (copy_facts seat) word call.seat_kept.is_start owned in
      record { owns = owned; real = real; within = held_low word real }

  -- the word of a held page is one of those too
  pub has_page : (page : ℕ) → IsTrue (in_words copier.facts.held page)
      → (page / 64 < length (copy_facts seat).start.dirty) × (page / 64 < length seat.held.items)
  has_page page held =
      let own : IsTrue (in_words (copy_facts seat).held page) =
      subst (λ f. IsTrue (in_words f.held page)) copy_facts_are held in
      let real = word_low (copy_facts seat).start page call.seat_kept.is_start
      (call.seat_kept.fits.held page own).page_real in
      (real, held_low (page / 64) real)

  before : Before copier.facts
  before = record {
    fits = subst (λ f. CopyFits f) (sym copy_facts_are) call.seat_kept.fits;
    is_start = subst (λ f. IsStart f.start) (sym copy_facts_are) call.seat_kept.is_start;
  }

  -- ---- what a seat's own facts become, its contract's facts become

  pub harvested : (new : CopyFacts) (word answer : ℕ) → OwnsWord copier.facts word
      → new ≡ after_harvest word answer (copy_facts seat)
      → SamePages (in_words new.held) (union (in_words copier.facts.held) (bit_pages word answer))
      × SamePages (in_words new.returned) (minus (in_words copier.facts.returned) (word_pages word))
      × MakesFresh copier.facts word answer new
  harvested new word answer owns is = harvest_changes copier.facts new word answer before owns
      (is ∙ ap (after_harvest word answer) (sym copy_facts_are))

  pub peeked : (new : CopyFacts) (word answer : ℕ) → OwnsWord copier.facts word
      → new ≡ after_peek word answer (copy_facts seat) → MakesFresh copier.facts word answer new
  peeked new word answer owns is = peek_changes copier.facts new word answer before owns
      (is ∙ ap (after_peek word answer) (sym copy_facts_are))

  pub restored : (new : CopyFacts) (word bits : ℕ) → OwnsWord copier.facts word → bits < 2 ^ 64
      → new ≡ after_restore word bits (copy_facts seat)
      → SamePages (in_words new.held) (minus (in_words copier.facts.held) (bit_pages word bits))
      × SamePages (in_words new.returned) (union (in_words copier.facts.returned) (bit_pages word bits))
  restored new word bits owns small is = restore_changes copier.facts new word bits before owns small
      (is ∙ ap (after_restore word bits) (sym copy_facts_are))

  pub was_read : (new : CopyFacts) (page place : ℕ) → IsTrue (in_words copier.facts.held page)
      → new ≡ after_read page place (copy_facts seat)
      → SamePages (in_words new.held) (minus (in_words copier.facts.held) (one_page page))
  was_read new page place held is = read_changes copier.facts new page place before held
      (is ∙ ap (after_read page place) (sym copy_facts_are))

  -- ---- what a call asks

  -- a word that the copier owns is one of the table's dirty words
  own_word : (word : ℕ) → OwnsWord (copy_facts seat) word → (word < length table.table.shared.key.dirty)
      × (word < table.table.shared.table_id.words)
  own_word word owns =
      let start : Start = table.table.shared.key in
      let dirty : length table.dirty.items ≡ length start.dirty = ap length call.table_kept.dirty in
      let words = call.table_kept.words in
      let rule = call.table_kept.is_start.words in
      let pages : length (copy_facts seat).start.places ≡ length start.places =
      ap (λ k. length k.places) one_copy_start in
      let real = owns.word_real in
      (omega (arith, rule, pages, real), omega (arith, dirty, words, rule, pages, real))

  pub harvest_asks : (word : ℕ) → OwnsWord copier.facts word
      → (seat.seat.table_id ≡ table.table.shared.table_id) × (word < table.table.shared.table_id.words)
      × Allows (λ s. Shows table.table.shared.key s) table.table.shared.table_id.slots seat.seat.id seat.seat.me word
      (λ _. 0)
      (harvests (step table.table.shared.table_id.slots word 0 0 none) seat.seat.me)
  harvest_asks word owns =
      let owned : OwnsWord (copy_facts seat) word = subst (λ f. OwnsWord f word) copy_facts_are owns in
      let low = own_word word owned in (
        one_copy_id,
        low.1,
        harvest_allowed table.table.shared.key _ seat.seat.id seat.seat.me word call.seat_kept.alone
            owned low.0 call.seat_kept.fits,
      )

  pub peek_asks : (word : ℕ) → OwnsWord copier.facts word
      → (seat.seat.table_id ≡ table.table.shared.table_id) × (word < table.table.shared.table_id.words)
      × Allows (λ s. Shows table.table.shared.key s) table.table.shared.table_id.slots seat.seat.id seat.seat.me word
      (λ n. n)
      (peeks (step table.table.shared.table_id.slots word 0 0 none) seat.seat.me)
  peek_asks word owns =
      let owned : OwnsWord (copy_facts seat) word = subst (λ f. OwnsWord f word) copy_facts_are owns in
      let low = own_word word owned in (
        one_copy_id,
        low.1,
        peek_allowed table.table.shared.key _ seat.seat.id seat.seat.me word call.seat_kept.alone
            owned low.0 call.seat_kept.fits,
      )

  pub restore_asks : (word bits : ℕ) → OwnsWord copier.facts word → bits < 2 ^ 64
      → IsWithin (bit_pages word bits) (in_words copier.facts.held)
      → (seat.seat.table_id ≡ table.table.shared.table_id) × (word < table.table.shared.table_id.words)
      × Allows (λ s. Shows table.table.shared.key s) table.table.shared.table_id.slots seat.seat.id seat.seat.me word
      (λ n. bit_or n bits)
      (restores (step table.table.shared.table_id.slots word bits 0 none) seat.seat.me)
  restore_asks word bits owns small held =
      let owned : OwnsWord (copy_facts seat) word = subst (λ f. OwnsWord f word) copy_facts_are owns in
      let low = own_word word owned in (
        one_copy_id,
        low.1,
        restore_allowed table.table.shared.key _ seat.seat.id seat.seat.me word bits call.seat_kept.alone owned low.0
            small
            (subst (λ f. IsWithin (bit_pages word bits) (in_words f.held)) copy_facts_are held) call.seat_kept.fits,
      )

  pub read_asks : (page word : ℕ) → IsTrue (in_words copier.facts.held page) → word ≡ length table.dirty.items + page
      → (seat.seat.table_id ≡ table.table.shared.table_id) × (word < table.table.shared.table_id.words)
      × Allows (λ s. Shows table.table.shared.key s) table.table.shared.table_id.slots seat.seat.id seat.seat.me word
      (λ n. n)
      (reads (step table.table.shared.table_id.slots word 0 0 none) seat.seat.me)
  read_asks page word held is =
      let start : Start = table.table.shared.key in
      let held' : IsTrue (in_words (copy_facts seat).held page) =
      subst (λ f. IsTrue (in_words f.held page)) copy_facts_are held in
      let real = (call.seat_kept.fits.held page held').page_real in
      let dirty : length table.dirty.items ≡ length start.dirty = ap length call.table_kept.dirty in
      let places : length table.places.items ≡ length start.places = ap length call.table_kept.places in
      let words = call.table_kept.words in
      let pages : length (copy_facts seat).start.places ≡ length start.places =
      ap (λ k. length k.places) one_copy_start in
      let at : place_word start page ≡ word = omega (arith, is, dirty) in (
        one_copy_id,
        omega (arith, is, dirty, places, words, pages, real),
        subst (λ w. Allows (λ s. Shows start s) table.table.shared.table_id.slots seat.seat.id seat.seat.me w (λ n. n)
            (reads (step table.table.shared.table_id.slots w 0 0 none) seat.seat.me)) at
            (read_allowed start table.table.shared.table_id.slots seat.seat.id seat.seat.me page call.seat_kept.alone
            held' call.seat_kept.fits),
      )

  -- the page whose place this word has
  pub word_page : (page word : ℕ) → word ≡ length table.dirty.items + page
      → word - length (copy_facts seat).start.dirty ≡ page
  word_page page word is =
      let dirty : length table.dirty.items ≡ length table.table.shared.key.dirty = ap length call.table_kept.dirty in
      let words : length (copy_facts seat).start.dirty ≡ length table.table.shared.key.dirty =
      ap (λ k. length k.dirty) one_copy_start in
      omega (arith, is, dirty, words)
