-- What C sees of frames, and why there is none.
use Rattle.std.specs.Prelude.{◌≡◌, ◌⊎◌, ◌≢◌, ℕ, ◌^◌, ◌<◌, ◌≤◌, List, length, Some, take}
use Rattle.migration_model.specs.Frames.{IsGuestShape, PageFrame, SpellsFrame}
use Rattle.page_message.specs.Refusals.{frame_refusal}
use Rattle.page_message.specs.declared.error.FrameError.TheVariants as frames
use Rattle.c_answers.specs.declared.answers.Refusal.{Refusal}
use Rattle.c_answers.specs.declared.answers.Refusal.TheVariants as refusals
use Rattle.c_answers.specs.declared.sizes.GuestSizes.{GuestSizes}
use Rattle.c_answers.specs.Settings.{shape_in, shape_refusal}

-- a guest of these sizes has the page, and a page of it may have this stamp and so many bytes
pub record HasFrame (sizes : GuestSizes) (page stamp : ℕ) (bytes : List ℕ) : Type 0 where
  pub shape : IsGuestShape (shape_in sizes)
  pub page_is : page < sizes.pages
  pub stamp_is : stamp ≤ sizes.writes
  pub bytes_are : length bytes ≡ 2 ^ sizes.shift

-- a frame is not encoded: the sizes are refused, or else the page, or else the stamp, or else the number of its bytes,
-- or else memory ran out
abbrev pub RefusesEncoding : GuestSizes → ℕ → ℕ → List ℕ → Refusal → Type 0
RefusesEncoding sizes page stamp bytes (refusals.Trace e) = shape_refusal sizes ≡ Some e
RefusesEncoding sizes page stamp bytes (refusals.Frame e) = IsGuestShape (shape_in sizes)
    × (((e ≡ frames.Page) × (sizes.pages ≤ page))
    ⊎ ((e ≡ frames.Stamp) × (page < sizes.pages) × (sizes.writes < stamp)))
RefusesEncoding sizes page stamp bytes refusals.PageLength = IsGuestShape (shape_in sizes) × (page < sizes.pages)
    × (stamp ≤ sizes.writes) × (length bytes ≢ 2 ^ sizes.shift)
RefusesEncoding sizes page stamp bytes refusals.Memory = HasFrame sizes page stamp bytes
RefusesEncoding sizes page stamp bytes (refusals.Settings e) = ⊥
RefusesEncoding sizes page stamp bytes refusals.SettingsSize = ⊥
RefusesEncoding sizes page stamp bytes refusals.ShortBuffer = ⊥
RefusesEncoding sizes page stamp bytes refusals.MemoryLength = ⊥
RefusesEncoding sizes page stamp bytes refusals.PageCount = ⊥
RefusesEncoding sizes page stamp bytes refusals.PageMissing = ⊥

-- the front of the bytes is a frame
pub record BeginsWithFrame (sizes : GuestSizes) (bytes : List ℕ) : Type 0 where
  pub frame : PageFrame
  pub size : ℕ
  pub spells : SpellsFrame (shape_in sizes) (take size bytes) frame

-- bytes are not decoded: the sizes are refused, or else the bytes, which begin with no frame, or else a page has no
-- room
abbrev pub RefusesDecoding : GuestSizes → List ℕ → ℕ → Refusal → Type 0
RefusesDecoding sizes bytes room (refusals.Trace e) = shape_refusal sizes ≡ Some e
RefusesDecoding sizes bytes room (refusals.Frame e) = IsGuestShape (shape_in sizes)
    × (frame_refusal (shape_in sizes) bytes ≡ Some e)
RefusesDecoding sizes bytes room refusals.ShortBuffer = IsGuestShape (shape_in sizes) × BeginsWithFrame sizes bytes
    × (room < 2 ^ sizes.shift)
RefusesDecoding sizes bytes room refusals.PageLength = ⊥
RefusesDecoding sizes bytes room refusals.Memory = ⊥
RefusesDecoding sizes bytes room (refusals.Settings e) = ⊥
RefusesDecoding sizes bytes room refusals.SettingsSize = ⊥
RefusesDecoding sizes bytes room refusals.MemoryLength = ⊥
RefusesDecoding sizes bytes room refusals.PageCount = ⊥
RefusesDecoding sizes bytes room refusals.PageMissing = ⊥
