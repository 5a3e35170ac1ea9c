-- A trace that is open between calls, as C sees it, and why a call over it has no answer. This project's own.
use Rattle.std.specs.Prelude.{◌≡◌, ◌≢◌, ℕ, ◌^◌, ◌<◌, ◌≤◌}
use Rattle.migration_model.specs.Final.{shape_of_trace}
use Rattle.migration_model.specs.Trace.{GuestTrace}
use Rattle.open_traces.specs.Index.{IsOpen}
use Rattle.page_versions.specs.Index.{version_after}
use Rattle.c_answers.specs.Places.{IsVersion, number_of_place}
use Rattle.c_answers.specs.Settings.{shape_in}
use Rattle.c_answers.specs.declared.opened.TraceHandle.{TraceHandle}
use Rattle.c_answers.specs.declared.place_answers.PlaceRefusal.{PlaceRefusal}
use Rattle.c_answers.specs.declared.place_answers.PlaceRefusal.TheVariants as refusals

-- the bytes of the handle spell the trace, its words are the index of the trace, and its sizes are the trace's
pub record Shows (handle : TraceHandle) (trace : GuestTrace) : Type 0 where
  pub is_open : IsOpen trace handle.bytes.now handle.words.now
  pub sizes_are : shape_in handle.sizes ≡ shape_of_trace trace
  pub version_is : handle.version ≡ trace.version

-- what a call over a handle asks for: precopy_trace_open made it, and nothing changed what it borrows
abbrev pub IsOpened : TraceHandle → Type 0
IsOpened handle = (trace : GuestTrace) × Shows handle trace

-- the guest does not have the page, or the page no such version, or its bytes have no room
abbrev pub LacksVersion : GuestTrace → ℕ → ℕ → ℕ → PlaceRefusal → Type 0
LacksVersion trace page stamp room refusals.NoPage = trace.pages ≤ page
LacksVersion trace page stamp room refusals.NoVersion = (page < trace.pages) × (version_after trace page stamp ≢ stamp)
LacksVersion trace page stamp room refusals.ShortBuffer = IsVersion trace page stamp × (room < 2 ^ trace.shift)
LacksVersion trace page stamp room refusals.Backwards = ⊥
LacksVersion trace page stamp room refusals.MemoryLength = ⊥

-- this is the number of a refusal for which that holds
abbrev pub IsNumberOfPlace : ℕ → (PlaceRefusal → Type 0) → Type 0
IsNumberOfPlace number Holds = (refusal : PlaceRefusal) × (number ≡ number_of_place refusal) × Holds refusal
