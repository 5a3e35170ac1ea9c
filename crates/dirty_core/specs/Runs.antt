-- Whole runs of the dirty core, and what holds of every page after each. This project's own.
use Rattle.std.specs.Prelude.{◌<◌, ◌≤◌, unwrap_or, ◌≡◌, ◌⊎◌, ℕ, IsTrue, List, [], ◌∷◌, Some, None, take, slice_index}
use Rattle.std.specs.Prelude.{slice_get}
use Rattle.std.specs.List.{fold}
use Rattle.dirty_core.specs.declared.event.Event.{Event}
use Rattle.dirty_core.specs.declared.refusal.CoreRefusal.{CoreRefusal}
use Rattle.dirty_core.specs.declared.refusal.CoreRefusal.TheVariants.{Memory}
use Rattle.page_bitmap.specs.Pages.{in_words, no_page}
use Rattle.dirty_core.specs.Start.{Start, sizes_of, guest_of, copier_of}
use Rattle.dirty_core.specs.Machine.{DirtyCore, Visits, last_visit, is_stored, Needs, IsFirstRefusal, after}

-- the core at opening: given places and marks, and nothing pending, held, stored or read
abbrev pub opened : Start → DirtyCore
opened start = record {
  sizes = sizes_of start;
  place = λ page. slice_index start.places page;
  marked = in_words start.dirty;
  pending = λ guest. None;
  held = λ copier. no_page;
  reads = λ copier. [];
  stores = λ guest. [];
  at_opening = in_words start.dirty;
  returned = in_words start.dirty;
}

-- the core after these events, in order
abbrev pub core_after : Start → List Event → DirtyCore
core_after start events = fold after (opened start) events

-- each event finds its needs
abbrev pub IsLegalFrom : DirtyCore → List Event → Type 0
IsLegalFrom core [] = Unit {0}
IsLegalFrom core (event ∷ events) = Needs core event × IsLegalFrom (after core event) events

abbrev pub IsLegal : Start → List Event → Type 0
IsLegal start events = IsLegalFrom (opened start) events

-- one page is pending with its guest
abbrev pub IsPending : DirtyCore → ℕ → Type 0
IsPending core page = core.pending (guest_of core.sizes page) ≡ Some page

-- one page is held by its copier
abbrev pub IsHeld : DirtyCore → ℕ → Type 0
IsHeld core page = IsTrue (core.held (copier_of core.sizes page) page)

-- one page's copier has read it, the last time at its current place
abbrev pub IsRead : DirtyCore → ℕ → Type 0
IsRead core page = last_visit (core.reads (copier_of core.sizes page)) page ≡ Some (core.place page)

-- a page that was marked at opening or stored since is marked, held, pending, or was last read at its current place
abbrev pub IsCaughtUp : DirtyCore → ℕ → Type 0
IsCaughtUp core page = IsTrue (core.at_opening page) ⊎ IsTrue (is_stored core page)
    → IsTrue (core.marked page) ⊎ (IsHeld core page ⊎ (IsPending core page ⊎ IsRead core page))

-- a page is marked only if it was stored since opening or is returned
abbrev pub IsOnlyDue : DirtyCore → ℕ → Type 0
IsOnlyDue core page = IsTrue (core.marked page) → IsTrue (is_stored core page) ⊎ IsTrue (core.returned page)

-- the place of a page after these visits: that of the last one, or the place before them
abbrev pub place_after : ℕ → Visits → ℕ → ℕ
place_after before visits page = unwrap_or (last_visit visits page) before

-- a page's places rise from visit to visit, each above the previous one
abbrev pub Rises : ℕ → Visits → ℕ → Type 0
Rises before [] page = Unit {0}
Rises before (visit ∷ others) page = (visit.0 ≡ page → place_after before others page < visit.1)
    × Rises before others page

-- one of the visits was of this page at this place
abbrev pub IsVisited : Visits → ℕ → ℕ → Type 0
IsVisited [] page place = ⊥
IsVisited (visit ∷ others) page place = ((visit.0 ≡ page) × (visit.1 ≡ place)) ⊎ IsVisited others page place

-- what the history of a core says of one page's place
pub record KnowsPlace (start : Start) (core : DirtyCore) (page : ℕ) : Type 0 where
  -- the place is that of the last store, or the opening's
  pub place : core.place page ≡ place_after (slice_index start.places page)
      (core.stores (guest_of core.sizes page)) page
  -- the places stored rise, each above the opening's
  pub rises : Rises (slice_index start.places page) (core.stores (guest_of core.sizes page)) page
  -- each place read is the opening's or was stored
  pub read : (place : ℕ) → IsVisited (core.reads (copier_of core.sizes page)) page place
      → (place ≡ slice_index start.places page) ⊎ IsVisited (core.stores (guest_of core.sizes page)) page place

-- the place of a page is no less than the opening's, and no less than any at which its copier has read it
pub record IsOverReads (start : Start) (core : DirtyCore) (page : ℕ) : Type 0 where
  pub opening : slice_index start.places page ≤ core.place page
  pub read : (place : ℕ) → IsVisited (core.reads (copier_of core.sizes page)) page place → place ≤ core.place page

-- what else is known of one page's mark: a pending page was stored, and a returned page is marked, since only its
-- copier unmarks it
pub record KnowsMark (core : DirtyCore) (page : ℕ) : Type 0 where
  pub pending : IsPending core page → IsTrue (is_stored core page)
  pub returned : IsTrue (core.returned page) → IsTrue (core.marked page)

-- a page that is marked, held or pending exists
pub record IsReal (core : DirtyCore) (page : ℕ) : Type 0 where
  pub marked : IsTrue (core.marked page) → page < core.sizes.pages
  pub held : (copier : ℕ) → IsTrue (core.held copier page) → page < core.sizes.pages
  pub pending : (guest : ℕ) → core.pending guest ≡ Some page → page < core.sizes.pages

-- no changed page is lost
abbrev pub CaughtUp : DirtyCore → Type 0
CaughtUp core = (page : ℕ) → IsCaughtUp core page

-- no other page is marked
abbrev pub OnlyDue : DirtyCore → Type 0
OnlyDue core = (page : ℕ) → IsOnlyDue core page

-- the event at this index is the first whose needs don't hold, and is refused for this
pub record Stops (start : Start) (events : List Event) (index : ℕ) (refusal : CoreRefusal) : Type 0 where
  pub event : Event
  pub there : slice_get events index ≡ Some event
  pub before : IsLegal start (take index events)
  pub refused : IsFirstRefusal (core_after start (take index events)) event refusal

-- why a run is refused: memory ran out for its opening, or an event is refused
abbrev pub RunRefuses : Start → List Event → ℕ × CoreRefusal → Type 0
RunRefuses start events found = ((found.0 ≡ 0) × (found.1 ≡ Memory)) ⊎ Stops start events found.0 found.1
