-- A caller's flat memory to which frames come: the bytes of all pages, and a state for each page. It holds a part, in
-- the sense of the definitions, and the effect of a stream of frames is stated for that part. This project's own.
use Rattle.std.specs.Prelude.{◌≡◌, ◌≢◌, ◌⊎◌, ℕ, ◌*◌, ◌^◌, ◌==◌, ◌<◌, ◌≤◌, if◌then◌else◌, List, length, map, drop}
use Rattle.std.specs.Prelude.{Option, Some, None}
use Rattle.std.specs.Prelude.{slice_index_or}
use Rattle.std.specs.List.{range_with_len}
use Rattle.migration_model.specs.Frames.{GuestShape, IsGuestShape}
use Rattle.migration_model.specs.Memory.{memory_with, page_of}
use Rattle.migration_model.specs.Parts.{GuestPart, PageCopy, part_with}
use Rattle.collector.specs.Streams.{TakesFrames}
use Rattle.page_message.specs.Refusals.{frame_refusal}
use Rattle.page_message.specs.declared.error.FrameError.{FrameError}
use Rattle.c_answers.specs.declared.flat_memory.PageState.{PageState}
use Rattle.c_answers.specs.declared.flat_memory.StreamTaken.{StreamTaken}
use Rattle.c_answers.specs.declared.sizes.GuestSizes.{GuestSizes}
use Rattle.c_answers.specs.declared.answers.Refusal.{Refusal}
use Rattle.c_answers.specs.declared.answers.Refusal.TheVariants as refusals
use Rattle.c_answers.specs.Settings.{shape_in, shape_refusal}

-- the state of a page that did not come
abbrev pub not_come : PageState
not_come = record { came = 0; stamp = 0 }

-- what the memory with these bytes has for a page in a state
abbrev pub copy_in_state : GuestShape → List ℕ → ℕ → PageState → Option PageCopy
copy_in_state shape bytes page state = if state.came == 0 then None else Some (record {
  stamp = state.stamp;
  content = page_of (memory_with shape.shift shape.pages bytes) page;
})

-- the part that these bytes and states hold
abbrev pub flat_part : GuestShape → List ℕ → List PageState → GuestPart
flat_part shape bytes states =
    part_with shape (map (λ page. copy_in_state shape bytes page (slice_index_or states page not_come))
    (range_with_len 0 shape.pages))

-- there are as many bytes as all pages have, and a state for each page
pub record IsFlat (shape : GuestShape) (bytes : List ℕ) (states : List PageState) : Type 0 where
  pub bytes_are : length bytes ≡ shape.pages * 2 ^ shape.shift
  pub states_are : length states ≡ shape.pages

-- the bytes of the pages that have not come are as they were
abbrev pub KeepsOthers : GuestShape → List ℕ → List ℕ → List PageState → Type 0
KeepsOthers shape old new states = (page : ℕ) → page < shape.pages
    → (slice_index_or states page not_come).came ≡ 0
    → page_of (memory_with shape.shift shape.pages new) page ≡ page_of (memory_with shape.shift shape.pages old) page

-- a state is as it was, or says that the page came: for the first time, or with a greater stamp
abbrev pub IsLater : PageState → PageState → Type 0
IsLater old new = (new ≡ old) ⊎ ((new.came ≡ 1) × ((old.came ≡ 0) ⊎ (old.stamp < new.stamp)))

abbrev pub AreLater : List PageState → List PageState → Type 0
AreLater old new = (page : ℕ) → IsLater (slice_index_or old page not_come) (slice_index_or new page not_come)

-- `taken.frames` frames, `taken.bytes` bytes in total, were taken from the front of the bytes; the rest is left
pub record TakesFlat (shape : GuestShape) (old new : List ℕ) (old_states new_states : List PageState) (bytes : List ℕ)
    (taken : StreamTaken) (rest : List ℕ) : Type 0 where
  pub takes : TakesFrames (flat_part shape old old_states) (flat_part shape new new_states) bytes taken.frames rest
  pub rest_is : rest ≡ drop taken.bytes bytes
  pub within : taken.bytes ≤ length bytes
  pub others : KeepsOthers shape old new new_states
  pub later : AreLater old_states new_states
  pub was_flat : IsFlat shape old old_states
  pub is_flat : IsFlat shape new new_states

-- the frames before the first that is refused were taken, and it is refused for this
pub record StopsFlat (shape : GuestShape) (old new : List ℕ) (old_states new_states : List PageState) (bytes : List ℕ)
    (taken : StreamTaken) (e : FrameError) : Type 0 where
  pub rest : List ℕ
  pub takes : TakesFlat shape old new old_states new_states bytes taken rest
  pub some : 0 < length rest
  pub refused : frame_refusal shape rest ≡ Some e

-- no frame is taken: the sizes are refused, or else there are not as many bytes as they say, or else not as many states
abbrev pub RefusesFlat : GuestSizes → ℕ → ℕ → Refusal → Type 0
RefusesFlat sizes bytes states (refusals.Trace e) = shape_refusal sizes ≡ Some e
RefusesFlat sizes bytes states refusals.MemoryLength = IsGuestShape (shape_in sizes)
    × (bytes ≢ sizes.pages * 2 ^ sizes.shift)
RefusesFlat sizes bytes states refusals.PageCount = IsGuestShape (shape_in sizes)
    × (bytes ≡ sizes.pages * 2 ^ sizes.shift) × (states ≢ sizes.pages)
RefusesFlat sizes bytes states (refusals.Frame e) = ⊥
RefusesFlat sizes bytes states refusals.ShortBuffer = ⊥
RefusesFlat sizes bytes states refusals.PageLength = ⊥
RefusesFlat sizes bytes states refusals.Memory = ⊥
RefusesFlat sizes bytes states (refusals.Settings e) = ⊥
RefusesFlat sizes bytes states refusals.SettingsSize = ⊥
RefusesFlat sizes bytes states refusals.PageMissing = ⊥

-- this is the first page that did not come
pub record IsFirstMissing (states : List PageState) (page : ℕ) : Type 0 where
  pub within : page < length states
  pub missing : (slice_index_or states page not_come).came ≡ 0
  pub first : (other : ℕ) → other < page → (slice_index_or states other not_come).came ≢ 0
