-- Pages as they are sent, each at one of its versions, and the one encoding of each. The format is this project's own.
use Rattle.std.specs.Prelude.{◌≡◌, ℕ, ◌^◌, ◌<◌, ◌≤◌, List, [], ◌∷◌, ◌++◌, length, replicate, Option, Some, None, IfSome}
use Rattle.std.specs.Prelude.{unwrap_or}
use Rattle.std.specs.Int.{w32}
use Rattle.std.specs.List.{All, flat_map}
use Rattle.migration_model.specs.Numbers.{text_of}
use Rattle.migration_model.specs.Trace.{IsGuestSize}

-- how large a trace is: pages of 2 ^ shift bytes, how many pages, and how many writes
pub record GuestShape : Type 0 where
  pub shift : ℕ
  pub pages : ℕ
  pub writes : ℕ

abbrev pub shape_with : ℕ → ℕ → ℕ → GuestShape
shape_with shift pages writes = record { shift = shift; pages = pages; writes = writes }

-- a shape that a trace may have
pub record IsGuestShape (shape : GuestShape) : Type 0 where
  pub size : IsGuestSize shape.shift shape.pages
  pub few : shape.writes ≤ 2 ^ 20

-- each of these bytes is 0
abbrev pub IsZeros : List ℕ → Type 0
IsZeros bytes = All (λ byte. byte ≡ 0) bytes

-- A page at one of its versions, which the stamp names: the place of the last write in it, or 0. The body is the bytes
-- of the page, or None if all of them are 0.
pub record PageFrame : Type 0 where
  pub page : ℕ
  pub stamp : ℕ
  pub body : Option (List ℕ)

abbrev pub frame_with : ℕ → ℕ → Option (List ℕ) → PageFrame
frame_with page stamp body = record { page = page; stamp = stamp; body = body }

-- a frame that a trace of this shape may have
pub record IsFrame (shape : GuestShape) (frame : PageFrame) : Type 0 where
  pub page : frame.page < shape.pages
  pub stamp : frame.stamp ≤ shape.writes
  pub body : IfSome frame.body (λ bytes. (length bytes ≡ 2 ^ shape.shift) × ¬ IsZeros bytes)

-- the bytes of the page
abbrev pub content_of : GuestShape → PageFrame → List ℕ
content_of shape frame = unwrap_or frame.body (replicate (2 ^ shape.shift) 0)

-- a frame with this page, this stamp and these bytes of the page
pub record IsFrameOf (shape : GuestShape) (page stamp : ℕ) (bytes : List ℕ) (frame : PageFrame) : Type 0 where
  pub fits : IsFrame shape frame
  pub page_is : frame.page ≡ page
  pub stamp_is : frame.stamp ≡ stamp
  pub content : content_of shape frame ≡ bytes

-- the byte that says the kind of a body, and then the bytes of the body
abbrev pub body_text : Option (List ℕ) → List ℕ
body_text None = 0 ∷ []
body_text (Some bytes) = 1 ∷ bytes

-- the encoding of a frame: page, stamp, and the body
unfoldable pub frame_text : PageFrame → List ℕ
frame_text frame = text_of w32 frame.page ++ (text_of w32 frame.stamp ++ body_text frame.body)

-- these bytes are the encoding of this frame
pub record SpellsFrame (shape : GuestShape) (bytes : List ℕ) (frame : PageFrame) : Type 0 where
  pub is_frame : IsFrame shape frame
  pub text : bytes ≡ frame_text frame

-- these bytes are a stream of these frames: their encodings one after the other, and nothing else
pub record SpellsStream (shape : GuestShape) (bytes : List ℕ) (frames : List PageFrame) : Type 0 where
  pub are_frames : All (IsFrame shape) frames
  pub text : bytes ≡ flat_map frame_text frames
