-- Texts that come to a part, each the encoding of one frame.
use Rattle.std.specs.Prelude.{◌≡◌, ℕ, List, Some, map}
use Rattle.std.specs.List.{All}
use Rattle.migration_model.specs.Frames.{GuestShape, PageFrame, IsFrame, SpellsFrame, frame_text, frame_with}
use Rattle.migration_model.specs.Parts.{GuestPart, with_frame, with_frames}

-- the text encodes a frame with bytes of this page at this stamp
abbrev pub HasBytes : GuestShape → List ℕ → ℕ → ℕ → Type 0
HasBytes shape text page stamp = (bytes : List ℕ) × SpellsFrame shape text (frame_with page stamp (Some bytes))

-- the part took the frame that this text encodes
pub record TakesText (old new : GuestPart) (text : List ℕ) : Type 0 where
  pub frame : PageFrame
  pub spells : SpellsFrame old.shape text frame
  pub part : new ≡ with_frame old frame

-- the part took the frames that these texts encode, in order
pub record TakesTexts (old new : GuestPart) (texts : List (List ℕ)) : Type 0 where
  pub frames : List PageFrame
  pub are_frames : All (IsFrame old.shape) frames
  pub spelled : texts ≡ map frame_text frames
  pub part : new ≡ with_frames old frames
