-- What the code keeps of a core: all but its history, with sets of pages by words. This project's own.
use Rattle.std.specs.Prelude.{◌≡◌, ℕ, ◌^◌, ◌<◌, ◌≤◌, ◌&&◌, ◌==◌, List, length, Option, Some, None, Result, Ok, Err}
use Rattle.std.specs.Prelude.{slice_index, slice_index_or}
use Rattle.std.specs.List.{All}
use Rattle.dirty_core.specs.declared.event.Event.{Event}
use Rattle.dirty_core.specs.declared.answer.Answer.{Answer}
use Rattle.dirty_core.specs.declared.refusal.CoreRefusal.{CoreRefusal}
use Rattle.page_bitmap.specs.Listing.{word_count}
use Rattle.page_bitmap.specs.Pages.{PageSet, in_words}
use Rattle.dirty_core.specs.Start.{Sizes, copier_of}
use Rattle.dirty_core.specs.Machine.{DirtyCore, Visits, Step, Needs, IsFirstRefusal}

-- the places, the marked and the held pages by words, each guest's pending page, and how many copiers there are
pub record Kept : Type 0 where
  pub places : List ℕ
  pub dirty : List ℕ
  pub held : List ℕ
  pub pending : List (Option ℕ)
  pub copiers : ℕ

abbrev pub kept_with : List ℕ → List ℕ → List ℕ → List (Option ℕ) → ℕ → Kept
kept_with places dirty held pending copiers =
    record { places = places; dirty = dirty; held = held; pending = pending; copiers = copiers }

-- a word for each 64 pages begun, and pending pages that exist
pub record IsKept (kept : Kept) : Type 0 where
  pub dirty : length kept.dirty ≡ word_count (length kept.places)
  pub held : length kept.held ≡ word_count (length kept.places)
  pub pages : length kept.places ≤ 65_536
  pub guests : 1 ≤ length kept.pending
  pub copiers : 1 ≤ kept.copiers
  pub pending : (guest page : ℕ) → slice_index_or kept.pending guest None ≡ Some page → page < length kept.places

-- it is kept in words of 64 bits
pub record HasWords (core : Kept) : Type 0 where
  pub kept : IsKept core
  pub dirty : All (λ word. word < 2 ^ 64) core.dirty
  pub held : All (λ word. word < 2 ^ 64) core.held

abbrev pub kept_sizes : Kept → Sizes
kept_sizes kept = record { pages = length kept.places; guests = length kept.pending; copiers = kept.copiers }

abbrev pub place_of : Kept → ℕ → ℕ
place_of kept page = slice_index kept.places page

abbrev pub is_marked : Kept → PageSet
is_marked kept = in_words kept.dirty

abbrev pub pending_of : Kept → ℕ → Option ℕ
pending_of kept guest = slice_index_or kept.pending guest None

-- a page that is held is held by its copier
abbrev pub held_by : Kept → ℕ → PageSet
held_by kept copier page = (copier_of (kept_sizes kept) page == copier) && in_words kept.held page

-- the part of a core that no event needs
pub record History : Type 0 where
  pub reads : ℕ → Visits
  pub stores : ℕ → Visits
  pub at_opening : PageSet
  pub returned : PageSet

abbrev pub history_of : DirtyCore → History
history_of core = record {
  reads = core.reads;
  stores = core.stores;
  at_opening = core.at_opening;
  returned = core.returned;
}

-- the core that has this history
abbrev pub core_with : Kept → History → DirtyCore
core_with kept history = record {
  sizes = kept_sizes kept;
  place = place_of kept;
  marked = is_marked kept;
  pending = pending_of kept;
  held = held_by kept;
  reads = history.reads;
  stores = history.stores;
  at_opening = history.at_opening;
  returned = history.returned;
}

-- these are the places, marks, pending and held pages of that core
abbrev pub Keeps : Kept → DirtyCore → Type 0
Keeps kept core = core_with kept (history_of core) ≡ core

-- the kept value goes to another by an event with an answer, whatever the history was
abbrev pub Goes : Kept → Event → Answer → Kept → Type 0
Goes old event answer new = (history : History)
    → (later : History) × Step (core_with old history) event answer (core_with new later)

-- the event finds its needs, whatever the history was
abbrev pub FindsNeeds : Kept → Event → Type 0
FindsNeeds kept event = (history : History) → Needs (core_with kept history) event

-- the event is refused for this, whatever the history was
abbrev pub Refuses : Kept → Event → CoreRefusal → Type 0
Refuses kept event refusal = (history : History) → IsFirstRefusal (core_with kept history) event refusal

-- what a step from one kept value to another returns
abbrev pub Outcome : Kept → Event → Result Answer CoreRefusal → Kept → Type 0
Outcome old event (Ok answer) new = Goes old event answer new
Outcome old event (Err refusal) new = (new ≡ old) × Refuses old event refusal
