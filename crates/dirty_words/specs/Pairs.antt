-- A table of one guest and one copier, which the worked tables of the tests use.
use Rattle.std.specs.Prelude.{◌≡◌, ◌⊎◌, ℕ, ◌<◌, IsTrue, Option, Some, None, false, ◌∷◌, length, slice_index}
use Rattle.page_bitmap.specs.Pages.{in_words}
use Rattle.dirty_core.specs.Start.{Start}
use Rattle.dirty_core.specs.Machine.{Visits, last_visit}
use Rattle.dirty_words.specs.Facts.{GuestFacts, CopyFacts, first_guest, first_copier}
use Rattle.dirty_words.specs.Seats.{TableView, GuestView, CopyView, ClosedView, guest_view, copy_view, guest_table}
use Rattle.dirty_words.specs.Seats.{copy_table}
use Rattle.dirty_words.specs.Closing.{HasStored}

-- a table of one guest and one copier that opened so, with its seats, on which nothing has happened
pub record IsPair (start : Start) (table : TableView) (guest : GuestView) (copier : CopyView) : Type 0 where
  pub start_is : table.start ≡ start
  pub one_guest : start.guests ≡ 1
  pub one_copier : start.copiers ≡ 1
  pub guest_is : guest ≡ guest_view table.id (first_guest start 0)
  pub copier_is : copier ≡ copy_view table.id (first_copier start 0)

-- the seats are of the table, and it has no others
pub record IsPairOf (table : TableView) (guest : GuestView) (copier : CopyView) : Type 0 where
  pub one_guest : table.start.guests ≡ 1
  pub one_copier : table.start.copiers ≡ 1
  pub guest_of_table : guest_table guest ≡ table
  pub copier_of_table : copy_table copier ≡ table

-- each page that was marked at opening or stored, and is left unmarked, was last read at its current place
abbrev pub UnmarkedWasRead : Start → GuestFacts → CopyFacts → ClosedView → Type 0
UnmarkedWasRead start guest copier closed = (page : ℕ) → page < length start.places
    → IsTrue (in_words start.dirty page) ⊎ HasStored guest page
    → in_words closed.dirty page ≡ false → last_visit copier.reads page ≡ Some (slice_index closed.versions page)

-- the reads with one more, if there is one
abbrev pub with_read : ℕ → Option ℕ → Visits → Visits
with_read page None reads = reads
with_read page (Some place) reads = (page, place) ∷ reads

-- each such page was last read at its current place, if only this page was read, or none
abbrev pub UnmarkedIsRead : Start → ℕ → Option ℕ → ClosedView → Type 0
UnmarkedIsRead start one read closed = (page : ℕ) → page < length start.places → IsTrue (in_words start.dirty page)
    → in_words closed.dirty page ≡ false → (page ≡ one) × (read ≡ Some (slice_index closed.versions page))
