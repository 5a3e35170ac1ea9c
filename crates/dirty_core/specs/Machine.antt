-- The dirty core: its state, and its six events as relations between two cores and an answer. Marks are the dirty
-- bitmap of Clark and others (2005), section 5.1, which is peeked at (section 5.4) and cleared as a round's pages are
-- scanned. Places, seats, pending, held and returned pages are this project's own.
use Rattle.std.specs.Prelude.{◌≡◌, ℕ, ◌<◌, ◌^◌, ◌==◌, IsTrue, if◌then◌else◌, List, [], ◌∷◌, Option, Some, None, IsSome}
use Rattle.std.specs.Prelude.{is_some}
use Rattle.dirty_core.specs.declared.event.Event.{Event}
use Rattle.dirty_core.specs.declared.event.Event.TheVariants.{Store, Mark, Harvest, Peek, Restore, Read}
use Rattle.dirty_core.specs.declared.answer.Answer.{Answer}
use Rattle.dirty_core.specs.declared.answer.Answer.TheVariants.{Done, Pages, Place}
use Rattle.dirty_core.specs.declared.refusal.CoreRefusal.{CoreRefusal}
use Rattle.dirty_core.specs.declared.refusal.CoreRefusal.TheVariants.{NotOwner, Pending, NothingPending, NotHeld}
use Rattle.dirty_core.specs.declared.refusal.CoreRefusal.TheVariants.{OldPlace, Memory}
use Rattle.page_bitmap.specs.Pages.{PageSet, one_page, word_pages, bit_pages, union, common, minus, IsWithin, SamePages}
use Rattle.dirty_core.specs.Start.{Sizes, GuestOwns, CopierOwns, CopierOwnsPage, guest_of}

-- Stores or reads of a seat: the page and its place, the last one first.
abbrev pub Visits : Type 0
Visits = List (ℕ × ℕ)

-- the place of a page's last visit
abbrev pub last_visit : Visits → ℕ → Option ℕ
last_visit [] page = None
last_visit (visit ∷ others) page = if visit.0 == page then Some visit.1 else last_visit others page

-- A core: what each page's place is, which pages are marked, and what each guest and each copier has in hand; and then
-- its history, which no event needs.
pub record DirtyCore : Type 0 where
  pub sizes : Sizes
  pub place : ℕ → ℕ  -- of each page
  pub marked : PageSet
  pub pending : ℕ → Option ℕ  -- of each guest
  pub held : ℕ → PageSet  -- of each copier
  pub reads : ℕ → Visits  -- of each copier
  pub stores : ℕ → Visits  -- of each guest
  pub at_opening : PageSet  -- the pages marked at opening
  pub returned : PageSet  -- the pages marked at opening or restored, and not harvested since

-- the page was stored since opening
abbrev pub is_stored : DirtyCore → PageSet
is_stored core page = is_some (last_visit (core.stores (guest_of core.sizes page)) page)

-- a function with another value at one seat or page
abbrev pub put : {V : Type 0} → (ℕ → V) → ℕ → V → ℕ → V
put f one value n = if n == one then value else f n

-- What must hold for an event not to be refused by this name.
abbrev pub Need : DirtyCore → Event → CoreRefusal → Type 0
Need core (Store guest page place) NotOwner = GuestOwns core.sizes guest page
Need core (Store guest page place) Pending = core.pending guest ≡ None
Need core (Store guest page place) OldPlace = core.place page < place
Need core (Mark guest) NotOwner = guest < core.sizes.guests
Need core (Mark guest) NothingPending = IsSome (core.pending guest)
Need core (Harvest copier word) NotOwner = CopierOwns core.sizes copier word
Need core (Peek copier word) NotOwner = CopierOwns core.sizes copier word
Need core (Restore copier word bits) NotOwner = CopierOwns core.sizes copier word
Need core (Restore copier word bits) NotHeld = IsWithin (bit_pages word bits) (core.held copier)
Need core (Read copier page) NotOwner = CopierOwnsPage core.sizes copier page
Need core (Read copier page) NotHeld = IsTrue (core.held copier page)
Need core event refusal = Unit {0}

-- all that an event needs
abbrev pub Needs : DirtyCore → Event → Type 0
Needs core event = (refusal : CoreRefusal) → Need core event refusal

-- the order of the refusals
abbrev pub rank : CoreRefusal → ℕ
rank NotOwner = 1
rank Pending = 2
rank NothingPending = 3
rank NotHeld = 4
rank OldPlace = 5
rank Memory = 6

-- the first refusal, in that order, whose need isn't met
pub record IsFirstRefusal (core : DirtyCore) (event : Event) (refusal : CoreRefusal) : Type 0 where
  pub unmet : ¬ Need core event refusal
  pub met : (earlier : CoreRefusal) → rank earlier < rank refusal → Need core event earlier

-- the bits are the marked pages of the word
pub record AreMarked (core : DirtyCore) (word bits : ℕ) : Type 0 where
  pub fits : bits < 2 ^ 64
  pub pages : SamePages (bit_pages word bits) (common (word_pages word) core.marked)

-- the answer of an event
abbrev pub Answers : DirtyCore → Event → Answer → Type 0
Answers core (Store guest page place) Done = Unit {0}
Answers core (Mark guest) Done = Unit {0}
Answers core (Harvest copier word) (Pages bits) = AreMarked core word bits
Answers core (Peek copier word) (Pages bits) = AreMarked core word bits
Answers core (Restore copier word bits) Done = Unit {0}
Answers core (Read copier page) (Place place) = place ≡ core.place page
Answers core event answer = ⊥

-- the marked pages once a guest has nothing pending: its pending page too
abbrev pub with_pending : PageSet → Option ℕ → PageSet
with_pending marked None = marked
with_pending marked (Some page) = union marked (one_page page)

-- the core after an event
abbrev pub after : DirtyCore → Event → DirtyCore
-- the page has the place, and is pending
after core (Store guest page place) = record core {
  place = put core.place page place;
  pending = put core.pending guest (Some page);
  stores = put core.stores guest ((page, place) ∷ core.stores guest);
}
-- the pending page is marked, and nothing is pending
after core (Mark guest) = record core {
  marked = with_pending core.marked (core.pending guest);
  pending = put core.pending guest None;
}
-- the word's marked pages are held and no longer marked, and none of the word is returned
after core (Harvest copier word) = record core {
  marked = minus core.marked (word_pages word);
  held = put core.held copier (union (core.held copier) (common (word_pages word) core.marked));
  returned = minus core.returned (word_pages word);
}
-- nothing changes
after core (Peek copier word) = core
-- the pages are marked and returned, and no longer held
after core (Restore copier word bits) = record core {
  marked = union core.marked (bit_pages word bits);
  held = put core.held copier (minus (core.held copier) (bit_pages word bits));
  returned = union core.returned (bit_pages word bits);
}
-- the page is read at its place, and no longer held
after core (Read copier page) = record core {
  held = put core.held copier (minus (core.held copier) (one_page page));
  reads = put core.reads copier ((page, core.place page) ∷ core.reads copier);
}

-- one core goes to another by an event with an answer
pub record Step (old : DirtyCore) (event : Event) (answer : Answer) (new : DirtyCore) : Type 0 where
  pub needs : Needs old event
  pub answers : Answers old event answer
  pub leads : new ≡ after old event
