-- What a replayer did in a round.
use Rattle.std.specs.Prelude.{◌≡◌, ◌⊎◌, ℕ, ◌<◌, None, length, slice_index}
use Rattle.migration_model.specs.Trace.{GuestTrace}
use Rattle.migration_model.specs.Versions.{version_before}
use Rattle.migration_model.specs.Live.{IsPlaceOf}
use Rattle.dirty_core.specs.Start.{Start}
use Rattle.dirty_core.specs.Runs.{IsVisited}
use Rattle.dirty_words.specs.Facts.{GuestFacts, OwnsPage, after_store, after_mark}

-- a table opens with the versions of all pages before a tick
pub record OpensAt (trace : GuestTrace) (tick : ℕ) (start : Start) : Type 0 where
  pub pages : length start.places ≡ trace.pages
  pub places : (page : ℕ) → page < trace.pages → slice_index start.places page ≡ version_before trace page tick

-- the guest stored its pages at the places of their writes in these ticks, and nothing else, and marked them
pub record HasReplayed (trace : GuestTrace) (from to : ℕ) (facts : GuestFacts) : Type 0 where
  pub pending : facts.pending ≡ None
  pub stored : (page place : ℕ) → IsVisited facts.stores page place → OwnsPage facts page
      × IsPlaceOf trace page from to place
  pub all : (page place : ℕ) → OwnsPage facts page → IsPlaceOf trace page from to place
      → IsVisited facts.stores page place

-- the guest stored and marked its own page, or did nothing for another's
abbrev pub IsStoredIfOwn : ℕ → ℕ → GuestFacts → GuestFacts → Type 0
IsStoredIfOwn page place old new =
    (OwnsPage old page × (new ≡ after_mark (after_store page place old))) ⊎ ((¬ OwnsPage old page) × (new ≡ old))
