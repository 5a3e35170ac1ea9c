-- What each step tells its caller, and how views are cut and joined.
use Rattle.std.specs.Prelude.{◌≡◌, ◌⊎◌, ℕ, ◌-◌, ◌^◌, ◌<◌, ◌≤◌, IsTrue, List, [], ◌∷◌, length, slice_index}
use Rattle.atomic_table.specs.Table.{Step, Me}
use Rattle.page_bitmap.specs.Pages.{in_words, word_pages, bit_pages, common, IsWithin}
use Rattle.dirty_core.specs.Start.{Start, start_with}
use Rattle.dirty_core.specs.Runs.{IsVisited}
use Rattle.dirty_words.specs.Facts.{Facts, of_guest, of_copier, GuestFacts, CopyFacts, first_guest, first_copier}
use Rattle.dirty_words.specs.Facts.{after_store, after_mark, after_harvest, after_peek, after_restore, after_read}

-- ---- the one seat in a view

abbrev pub guest_in : List Facts → GuestFacts
guest_in (of_guest facts ∷ others) = facts
guest_in others = first_guest (start_with [] [] 0 0) 0

abbrev pub copier_in : List Facts → CopyFacts
copier_in (of_copier facts ∷ others) = facts
copier_in others = first_copier (start_with [] [] 0 0) 0

abbrev pub lone_guest : GuestFacts → List Facts
lone_guest facts = of_guest facts ∷ []

abbrev pub lone_copier : CopyFacts → List Facts
lone_copier facts = of_copier facts ∷ []

-- ---- what an answer of a harvest or a peek promises

-- the answer has at least the returned pages of the word, and only pages that exist
pub record IsAnswer (facts : CopyFacts) (word answer : ℕ) : Type 0 where
  pub fits : answer < 2 ^ 64
  pub returned : IsWithin (common (word_pages word) (in_words facts.returned)) (bit_pages word answer)
  pub real : (page : ℕ) → IsTrue (bit_pages word answer page) → page < length facts.start.places

-- the answer's pages that were not returned are fresh, as are those that were
pub record MakesFresh (old : CopyFacts) (word answer : ℕ) (new : CopyFacts) : Type 0 where
  pub shown : (page : ℕ) → IsTrue (bit_pages word answer page) → IsTrue (in_words old.returned page)
      ⊎ IsTrue (in_words new.fresh page)
  pub kept : IsWithin (in_words old.fresh) (in_words new.fresh)

-- the place is no less than the opening's, and no less than each that the seat has read of the page
pub record IsOver (facts : CopyFacts) (page place : ℕ) : Type 0 where
  pub fits : place < 2 ^ 32
  pub opening : slice_index facts.start.places page ≤ place
  pub reads : (earlier : ℕ) → IsVisited facts.reads page earlier → earlier ≤ place

-- ---- the steps

module _ {S : Type 0} (step : Step S) (me : Me S (List Facts)) (found : ℕ) (after : Me S (List Facts)) where
  -- the page whose place this word has
  abbrev page_of : Start → ℕ
  page_of start = step.word - length start.dirty

  abbrev pub stores : Type 0
  stores = after ≡ (lone_guest (after_store (page_of (guest_in me.0).start) step.first (guest_in me.0)), me.1)

  abbrev pub marks : Type 0
  marks = after ≡ (lone_guest (after_mark (guest_in me.0)), me.1)

  abbrev pub harvests : Type 0
  harvests = (after ≡ (lone_copier (after_harvest step.word found (copier_in me.0)), me.1))
      × IsAnswer (copier_in me.0) step.word found

  abbrev pub peeks : Type 0
  peeks = (after ≡ (lone_copier (after_peek step.word found (copier_in me.0)), me.1))
      × IsAnswer (copier_in me.0) step.word found

  abbrev pub restores : Type 0
  restores = after ≡ (lone_copier (after_restore step.word step.first (copier_in me.0)), me.1)

  abbrev pub reads : Type 0
  reads = (after ≡ (lone_copier (after_read (page_of (copier_in me.0).start) found (copier_in me.0)), me.1))
      × IsOver (copier_in me.0) (page_of (copier_in me.0).start) found

  -- a seat with nobody in it
  abbrev pub enters : Type 0
  enters = after ≡ ([], [])

-- ---- cut and join

abbrev pub first_of : List Facts → List Facts
first_of [] = []
first_of (facts ∷ others) = facts ∷ []

abbrev pub rest_of : List Facts → List Facts
rest_of [] = []
rest_of (facts ∷ others) = others
