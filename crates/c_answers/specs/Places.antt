-- What C sees of the versions and the writes of a page, and of memory that is brought on from one place of a trace to
-- another; and why there is no answer. Numbers 67 and 68 are of these calls alone. This project's own.
use Rattle.std.specs.Prelude.{◌≡◌, ◌≢◌, ℕ, ◌==◌, ◌<◌, ◌≤◌, List, length, drop, map, take}
use Rattle.std.specs.List.{enumerate_from, filter, fold}
use Rattle.migration_model.specs.Memory.{apply, image_after, memory_with}
use Rattle.migration_model.specs.Trace.{GuestTrace, GuestWrite}
use Rattle.page_versions.specs.Index.{version_after}
use Rattle.c_answers.specs.Memories.{memory_length}
use Rattle.c_answers.specs.declared.page_writes.PageWrite.{PageWrite}
use Rattle.c_answers.specs.declared.place_answers.PlaceRefusal.{PlaceRefusal}
use Rattle.c_answers.specs.declared.place_answers.PlaceRefusal.TheVariants as refusals

abbrev pub number_of_place : PlaceRefusal → ℕ
number_of_place refusals.NoPage = 67
number_of_place refusals.Backwards = 68
number_of_place refusals.NoVersion = 71
number_of_place refusals.MemoryLength = 63
number_of_place refusals.ShortBuffer = 61

-- the guest has the page, and the page a version with this stamp: 0, or the place of a write to it
pub record IsVersion (trace : GuestTrace) (page stamp : ℕ) : Type 0 where
  pub page_is : page < trace.pages
  pub version : version_after trace page stamp ≡ stamp

-- a write and its place, as C sees them
abbrev pub row_at : ℕ × GuestWrite → PageWrite
row_at at = record { tick = at.1.tick; size = length at.1.bytes; place = at.0; offset = at.1.offset }

-- the writes to a page, as C sees them, in their order
abbrev pub rows_of : GuestTrace → ℕ → List PageWrite
rows_of trace page = map row_at (filter (λ at. at.1.page == page) (enumerate_from 1 trace.writes))

-- memory with these bytes, after the writes behind the first `from` ones, up to the first `to`
abbrev pub brought_on : GuestTrace → ℕ → ℕ → List ℕ → List ℕ
brought_on trace from to bytes =
    (fold apply (memory_with trace.shift trace.pages bytes) (drop from (take to trace.writes))).bytes

-- All pages get these writes; so memory after the first `from` writes becomes that after the first `to`.
pub record IsStep (trace : GuestTrace) (from to : ℕ) (old new : List ℕ) : Type 0 where
  pub order : from ≤ to
  pub len : length old ≡ memory_length trace
  pub writes : new ≡ brought_on trace from to old
  pub memory : old ≡ (image_after trace from).bytes → new ≡ (image_after trace to).bytes

-- the step goes backwards, or else there is not so much memory
abbrev pub RefusesStep : GuestTrace → ℕ → ℕ → ℕ → PlaceRefusal → Type 0
RefusesStep trace from to room refusals.Backwards = to < from
RefusesStep trace from to room refusals.MemoryLength = (from ≤ to) × (room ≢ memory_length trace)
RefusesStep trace from to room refusals.NoPage = ⊥
RefusesStep trace from to room refusals.NoVersion = ⊥
RefusesStep trace from to room refusals.ShortBuffer = ⊥
