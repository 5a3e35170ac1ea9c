-- What the seats of a table know. A seat knows only its own facts: what it did, and what its own steps returned. This
-- project's own.
use Rattle.std.specs.Prelude.{◌≡◌, ℕ, ◌-◌, ◌^◌, ◌/◌, ◌%◌, ◌<◌, List, [], ◌∷◌, ◌++◌, map, length, replicate, Option}
use Rattle.std.specs.Prelude.{Some, None, IsTrue, false, bit_and, bit_or, bit_xor, slice_index, slice_set}
use Rattle.std.specs.List.{range_with_len}
use Rattle.page_bitmap.specs.Pages.{in_words}
use Rattle.dirty_core.specs.Start.{Start, sizes_of, GuestOwns, CopierOwns, CopierOwnsPage}
use Rattle.dirty_core.specs.Machine.{Visits}
use Rattle.dirty_core.specs.Runs.{place_after}

-- What a guest knows: what the table opened with, its own number, its stores, the last one first, and the page that it
-- stored and has not marked yet.
pub record GuestFacts : Type 0 where
  pub start : Start
  pub number : ℕ
  pub stores : Visits
  pub pending : Option ℕ

-- What a copier knows: what the table opened with, its own number, and the pages that it holds. Of its own pages it
-- knows the returned ones, so marked at opening or restored, and not harvested since; and the fresh ones, which an
-- answer showed while they were not returned. It knows its reads, the last one first. Sets of pages are kept by words.
pub record CopyFacts : Type 0 where
  pub start : Start
  pub number : ℕ
  pub held : List ℕ
  pub returned : List ℕ
  pub fresh : List ℕ
  pub reads : Visits

pub data Facts : Type 0 where
  of_guest : GuestFacts → Facts
  of_copier : CopyFacts → Facts

abbrev pub first_guest : Start → ℕ → GuestFacts
first_guest start number = record { start = start; number = number; stores = []; pending = None }

abbrev pub first_copier : Start → ℕ → CopyFacts
first_copier start number = record {
  start = start;
  number = number;
  held = replicate (length start.dirty) 0;
  returned = start.dirty;
  fresh = replicate (length start.dirty) 0;
  reads = [];
}

-- what `count` guests or copiers know at opening, from this number on
abbrev pub guest_entries : Start → ℕ → ℕ → List Facts
guest_entries start number count = map (λ n. of_guest (first_guest start n)) (range_with_len number count)

abbrev pub copier_entries : Start → ℕ → ℕ → List Facts
copier_entries start number count = map (λ n. of_copier (first_copier start n)) (range_with_len number count)

-- what all seats know at opening
abbrev pub opening_facts : Start → List Facts
opening_facts start = guest_entries start 0 start.guests ++ copier_entries start 0 start.copiers

-- the place of a page's last store, or the opening's
abbrev pub last_place : GuestFacts → ℕ → ℕ
last_place facts page = place_after (slice_index facts.start.places page) facts.stores page

abbrev pub OwnsPage : GuestFacts → ℕ → Type 0
OwnsPage facts page = GuestOwns (sizes_of facts.start) facts.number page

abbrev pub OwnsWord : CopyFacts → ℕ → Type 0
OwnsWord facts word = CopierOwns (sizes_of facts.start) facts.number word

-- ---- sets of pages by words

-- a set with these pages of a word too
abbrev pub with_bits : List ℕ → ℕ → ℕ → List ℕ
with_bits words word bits = slice_set words word (bit_or (slice_index words word) bits)

-- a set without these pages of a word
abbrev pub without_bits : List ℕ → ℕ → ℕ → List ℕ
without_bits words word bits = slice_set words word
    (bit_and (slice_index words word) (18_446_744_073_709_551_615 - bits))

-- a set without all pages of a word
abbrev pub without_word : List ℕ → ℕ → List ℕ
without_word words word = slice_set words word 0

-- the bits of the first that are not in the second
abbrev pub bits_less : ℕ → ℕ → ℕ
bits_less some others = bit_xor some (bit_and some others)

-- the bit of a page in its word
abbrev pub page_bit : ℕ → ℕ
page_bit page = 2 ^ (page % 64)

-- ---- the facts after each step

abbrev pub after_store : ℕ → ℕ → GuestFacts → GuestFacts
after_store page place facts = record facts { stores = (page, place) ∷ facts.stores; pending = Some page }

abbrev pub after_mark : GuestFacts → GuestFacts
after_mark facts = record facts { pending = None }

-- the fresh pages with those of an answer
abbrev pub fresh_after : ℕ → ℕ → CopyFacts → List ℕ
fresh_after word answer facts = with_bits facts.fresh word (bits_less answer (slice_index facts.returned word))

abbrev pub after_harvest : ℕ → ℕ → CopyFacts → CopyFacts
after_harvest word answer facts = record facts {
  held = with_bits facts.held word answer;
  returned = without_word facts.returned word;
  fresh = fresh_after word answer facts;
}

abbrev pub after_peek : ℕ → ℕ → CopyFacts → CopyFacts
after_peek word answer facts = record facts { fresh = fresh_after word answer facts }

abbrev pub after_restore : ℕ → ℕ → CopyFacts → CopyFacts
after_restore word bits facts = record facts {
  held = without_bits facts.held word bits;
  returned = with_bits facts.returned word bits;
}

abbrev pub after_read : ℕ → ℕ → CopyFacts → CopyFacts
after_read page place facts = record facts {
  held = without_bits facts.held (page / 64) (page_bit page);
  reads = (page, place) ∷ facts.reads;
}

-- ---- what is always so of a seat's facts

pub record GuestFits (facts : GuestFacts) : Type 0 where
  pub number : facts.number < facts.start.guests
  -- a pending page is the guest's own
  pub pending : (page : ℕ) → facts.pending ≡ Some page → OwnsPage facts page

pub record CopyFits (facts : CopyFacts) : Type 0 where
  pub number : facts.number < facts.start.copiers
  pub held_words : length facts.held ≡ length facts.start.dirty
  pub returned_words : length facts.returned ≡ length facts.start.dirty
  pub fresh_words : length facts.fresh ≡ length facts.start.dirty
  -- held pages are the copier's own
  pub held : (page : ℕ) → IsTrue (in_words facts.held page) → CopierOwnsPage (sizes_of facts.start) facts.number page

-- no page is held
abbrev pub HoldsNone : CopyFacts → Type 0
HoldsNone facts = (page : ℕ) → in_words facts.held page ≡ false
