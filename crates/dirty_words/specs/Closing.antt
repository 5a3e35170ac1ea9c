-- What a closed table leaves, and what the seats that came back say of it.
use Rattle.std.specs.Prelude.{◌≡◌, ◌⊎◌, ℕ, ◌<◌, ◌≤◌, IsTrue, is_some, List, length, map, Some, None, All}
use Rattle.std.specs.Prelude.{slice_index, slice_get}
use Rattle.std.specs.List.{range_with_len}
use Rattle.dirty_core.specs.declared.event.Event.{Event}
use Rattle.page_bitmap.specs.Listing.{word_count}
use Rattle.page_bitmap.specs.Pages.{in_words}
use Rattle.dirty_core.specs.Start.{Start, sizes_of, guest_of, copier_of}
use Rattle.dirty_core.specs.Machine.{DirtyCore, last_visit}
use Rattle.dirty_core.specs.Runs.{core_after, IsLegal, Rises, IsVisited}
use Rattle.dirty_words.specs.Facts.{GuestFacts, CopyFacts, first_guest, first_copier, last_place, HoldsNone}
use Rattle.dirty_words.specs.Shows.{TellsGuest, TellsCopier}
use Rattle.dirty_words.specs.Seats.{TableView, GuestView, CopyView, ClosedView, guest_view, copy_view, guest_table}
use Rattle.dirty_words.specs.Seats.{copy_table}

-- a version for each page, none above the writes, a word for each 64 pages begun, and no mark past the last page
pub record FitsPages (closed : ClosedView) (pages writes : ℕ) : Type 0 where
  pub versions : length closed.versions ≡ pages
  pub low : All (λ version. version ≤ writes) closed.versions
  pub dirty : length closed.dirty ≡ word_count pages
  pub real : (page : ℕ) → IsTrue (in_words closed.dirty page) → page < pages

-- ---- the seats at opening

abbrev pub first_guests : TableView → List GuestView
first_guests table = map (λ number. guest_view table.id (first_guest table.start number))
    (range_with_len 0 table.start.guests)

abbrev pub first_copiers : TableView → List CopyView
first_copiers table = map (λ number. copy_view table.id (first_copier table.start number))
    (range_with_len 0 table.start.copiers)

-- ---- the seats at closing

-- the guest of this number is of this table, and has nothing pending
pub record IsIdleGuest (table : TableView) (number : ℕ) (guest : GuestView) : Type 0 where
  pub table_is : guest_table guest ≡ table
  pub number_is : guest.facts.number ≡ number
  pub pending : guest.facts.pending ≡ None

-- the copier of this number is of this table, and holds nothing
pub record IsIdleCopier (table : TableView) (number : ℕ) (copier : CopyView) : Type 0 where
  pub table_is : copy_table copier ≡ table
  pub number_is : copier.facts.number ≡ number
  pub held : HoldsNone copier.facts

-- all guests of a table, in order of their numbers
pub record AllGuests (table : TableView) (guests : List GuestView) : Type 0 where
  pub count : length guests ≡ table.start.guests
  pub each : (number : ℕ) (guest : GuestView) → slice_get guests number ≡ Some guest → IsIdleGuest table number guest

-- all copiers of a table, in order of their numbers
pub record AllCopiers (table : TableView) (copiers : List CopyView) : Type 0 where
  pub count : length copiers ≡ table.start.copiers
  pub each : (number : ℕ) (copier : CopyView) → slice_get copiers number ≡ Some copier
      → IsIdleCopier table number copier

-- ---- what is left

-- the places and the marked pages are those of a core
pub record IsLeft (start : Start) (core : DirtyCore) (closed : ClosedView) : Type 0 where
  pub versions : length closed.versions ≡ length start.places
  pub words : length closed.dirty ≡ length start.dirty
  pub place : (page : ℕ) → page < length start.places → slice_index closed.versions page ≡ core.place page
  pub marked : (page : ℕ) → in_words closed.dirty page ≡ core.marked page

-- some legal list of events leaves the core that is shown, and the seats know what they did there
pub record IsLeftByEvents (start : Start) (guests : List GuestView) (copiers : List CopyView)
    (closed : ClosedView) : Type 0 where
  pub events : List Event
  pub legal : IsLegal start events
  pub left : IsLeft start (core_after start events) closed
  pub guests_tell : (number : ℕ) (guest : GuestView) → slice_get guests number ≡ Some guest
      → TellsGuest start (core_after start events) guest.facts
  pub copiers_tell : (number : ℕ) (copier : CopyView) → slice_get copiers number ≡ Some copier
      → TellsCopier start (core_after start events) copier.facts

-- the guest stored the page
abbrev pub HasStored : GuestFacts → ℕ → Type 0
HasStored guest page = IsTrue (is_some (last_visit guest.stores page))

-- what is left of one page, by what its guest and its copier know
pub record PageLeft (start : Start) (guest : GuestFacts) (copier : CopyFacts) (closed : ClosedView)
    (page : ℕ) : Type 0 where
  -- the version is that of the last store, or the opening's
  pub version : slice_index closed.versions page ≡ last_place guest page
  -- the places stored rise, each above the opening's
  pub rises : Rises (slice_index start.places page) guest.stores page
  -- a page that was marked at opening or stored is marked, or was last read at its version
  pub caught_up : IsTrue (in_words start.dirty page) ⊎ HasStored guest page
      → IsTrue (in_words closed.dirty page) ⊎ (last_visit copier.reads page ≡ Some (slice_index closed.versions page))
  -- a page is marked only if it was stored or is returned
  pub only_due : IsTrue (in_words closed.dirty page) → HasStored guest page ⊎ IsTrue (in_words copier.returned page)
  -- a returned page is marked
  pub returned : IsTrue (in_words copier.returned page) → IsTrue (in_words closed.dirty page)
  -- a fresh page that an answer showed was stored
  pub fresh : IsTrue (in_words copier.fresh page) → HasStored guest page
  -- each place read is the opening's, or was stored
  pub read : (place : ℕ) → IsVisited copier.reads page place → (place ≡ slice_index start.places page)
      ⊎ IsVisited guest.stores page place
  -- none is above the version
  pub over : (place : ℕ) → IsVisited copier.reads page place → place ≤ slice_index closed.versions page

-- of each page, by its own guest and copier
abbrev pub EachPageLeft : Start → List GuestView → List CopyView → ClosedView → Type 0
EachPageLeft start guests copiers closed = (page : ℕ) (guest : GuestView) (copier : CopyView)
    → page < length start.places
    → slice_get guests (guest_of (sizes_of start) page) ≡ Some guest
    → slice_get copiers (copier_of (sizes_of start) page) ≡ Some copier
    → PageLeft start guest.facts copier.facts closed page
