-- The rule of the dirty words: between any two steps the words and what the seats know show the core that some legal
-- list of events leaves. This project's own.
use Rattle.std.specs.Prelude.{◌≡◌, ℕ, ◌+◌, ◌/◌, ◌^◌, ◌<◌, List, length, slice_index}
use mathlib.Core.Option.{some}
use lib.ListN.{get_elem?}
use Rattle.atomic_table.specs.Table.{State}
use Rattle.dirty_core.specs.declared.event.Event.{Event}
use Rattle.page_bitmap.specs.Pages.{in_words, IsWithin, SamePages}
use Rattle.dirty_core.specs.Start.{Start, IsStart, copier_of}
use Rattle.dirty_core.specs.Machine.{DirtyCore, is_stored}
use Rattle.dirty_core.specs.Runs.{core_after, IsLegal}
use Rattle.dirty_words.specs.Facts.{Facts, of_guest, of_copier, GuestFacts, CopyFacts}

-- the word that has a page's place: the dirty words come first
abbrev pub place_word : Start → ℕ → ℕ
place_word start page = length start.dirty + page

-- the words show the marked pages and the places of a core
pub record ShowWords (start : Start) (words : List ℕ) (core : DirtyCore) : Type 0 where
  pub sized : length words ≡ length start.dirty + length start.places
  pub marked : (page : ℕ) → page / 64 < length start.dirty → in_words words page ≡ core.marked page
  pub place : (page : ℕ) → page < length start.places → slice_index words (place_word start page) ≡ core.place page
  -- a place is a `u32`
  pub small : (page : ℕ) → page < length start.places → core.place page < 2 ^ 32

pub record TellsGuest (start : Start) (core : DirtyCore) (facts : GuestFacts) : Type 0 where
  pub start_is : facts.start ≡ start
  pub stores : facts.stores ≡ core.stores facts.number
  pub pending : facts.pending ≡ core.pending facts.number

-- of its own pages the facts say which are returned; each fresh page was stored since opening
pub record TellsCopier (start : Start) (core : DirtyCore) (facts : CopyFacts) : Type 0 where
  pub start_is : facts.start ≡ start
  pub held : SamePages (in_words facts.held) (core.held facts.number)
  pub reads : facts.reads ≡ core.reads facts.number
  pub returned : (page : ℕ) → copier_of core.sizes page ≡ facts.number → in_words facts.returned page
      ≡ core.returned page
  pub fresh : IsWithin (in_words facts.fresh) (is_stored core)

-- the facts are true of a core
abbrev pub Tells : Start → DirtyCore → Facts → Type 0
Tells start core (of_guest facts) = TellsGuest start core facts
Tells start core (of_copier facts) = TellsCopier start core facts

-- which seat of the table stands for each guest and each copier
pub record Owners : Type 0 where
  pub guest : ℕ → ℕ
  pub copier : ℕ → ℕ

abbrev pub owner_of : Owners → Facts → ℕ
owner_of owners (of_guest facts) = owners.guest facts.number
owner_of owners (of_copier facts) = owners.copier facts.number

-- no guest or copier is in two views, and what is there is true
abbrev pub EachView : List (List Facts) → Owners → (Facts → Type 0) → Type 0
EachView views owners IsTold = (seat entry : ℕ) (view : List Facts) (facts : Facts)
    → get_elem? views seat ≡ some view → get_elem? view entry ≡ some facts
    → (owner_of owners facts ≡ seat) × IsTold facts

pub record Shows {S : Type 0} (start : Start) (state : State S (List Facts)) : Type 0 where
  pub is_start : IsStart start
  pub events : List Event
  pub legal : IsLegal start events
  pub words : ShowWords start state.words (core_after start events)
  pub owners : Owners
  pub views : EachView state.views owners (Tells start (core_after start events))
