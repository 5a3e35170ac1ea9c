-- Frames that come to a part one after another, as bytes.
use Rattle.std.specs.Prelude.{◌≡◌, ◌<◌, ◌⊎◌, ℕ, List, ◌++◌, length, Some, None}
use Rattle.std.specs.List.{All, flat_map}
use Rattle.migration_model.specs.Frames.{PageFrame, IsFrame, frame_text}
use Rattle.migration_model.specs.Parts.{GuestPart, with_frames}
use Rattle.page_message.specs.Refusals.{frame_refusal}
use Rattle.page_message.specs.declared.error.FrameError.{FrameError}
use Rattle.page_message.specs.declared.error.FrameError.TheVariants.{Memory}

-- the part took `count` frames from the front of the bytes, in order, and `rest` is the bytes after them
pub record TakesFrames (old new : GuestPart) (bytes : List ℕ) (count : ℕ) (rest : List ℕ) : Type 0 where
  pub frames : List PageFrame
  pub count_is : length frames ≡ count
  pub are_frames : All (IsFrame old.shape) frames
  pub text : bytes ≡ flat_map frame_text frames ++ rest
  pub part : new ≡ with_frames old frames

-- the part took the frames before the first that is refused, which is at this index, for this
pub record IsFirstRefused (old new : GuestPart) (bytes : List ℕ) (index : ℕ) (e : FrameError) : Type 0 where
  pub rest : List ℕ
  pub takes : TakesFrames old new bytes index rest
  pub some : 0 < length rest
  pub refused : frame_refusal old.shape rest ≡ Some e

-- the part took this many frames, and the bytes after them are not refused
pub record IsNext (old new : GuestPart) (bytes : List ℕ) (count : ℕ) : Type 0 where
  pub rest : List ℕ
  pub takes : TakesFrames old new bytes count rest
  pub accepted : frame_refusal old.shape rest ≡ None

-- the first frame that is refused, or one for which memory ran out
abbrev pub RefusesStream : GuestPart → GuestPart → List ℕ → (ℕ × FrameError) → Type 0
RefusesStream old new bytes e =
    ((e.1 ≡ Memory) × IsNext old new bytes e.0) ⊎ IsFirstRefused old new bytes e.0 e.1
