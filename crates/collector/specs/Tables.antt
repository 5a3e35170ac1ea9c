-- A part that is kept as a table of frames by page.
use Rattle.std.specs.Prelude.{◌≡◌, ◌==◌, ℕ, ◌+◌, ◌-◌, ◌<◌, ◌≤◌, if◌then◌else◌, max, List, ◌++◌, length, map, replicate, slice_index_or}
use Rattle.std.specs.Prelude.{Option, Some, None, IfSome, option_map}
use Rattle.std.specs.List.{list_all}
use Rattle.migration_model.specs.Frames.{GuestShape, frame_with, PageFrame, IsFrame}
use Rattle.migration_model.specs.Memory.{memory_with, page_of}
use Rattle.migration_model.specs.Parts.{PageCopy, GuestPart, copy_at, copy_in, with_frame}
use Rattle.migration_model.specs.Frames.{IsFrameOf}

-- the frame that brings this copy of a page
abbrev pub frame_in : ℕ → PageCopy → PageFrame
frame_in page copy = frame_with page copy.stamp
    (if list_all (λ byte. byte == 0) copy.content then None else Some copy.content)

-- the frame that brings what a part has of a page
abbrev pub frame_at : GuestPart → ℕ → Option PageFrame
frame_at part page = option_map (frame_in page) (copy_at part page)

-- the copies that the table has, and none of the pages past its end
abbrev pub copies_of : GuestShape → List (Option PageFrame) → List (Option PageCopy)
copies_of shape table = map (option_map (copy_in shape)) table ++ replicate (shape.pages - length table) None

-- each frame fits the shape and is in its page's slot
pub record IsTable (shape : GuestShape) (table : List (Option PageFrame)) : Type 0 where
  pub few : length table ≤ shape.pages
  pub own : (page : ℕ) → IfSome (slice_index_or table page None) (λ frame. (frame.page ≡ page) × IsFrame shape frame)

-- the table has more slots than before, none of them past that of the page, and all empty
pub record Grows (old new : List (Option PageFrame)) (page : ℕ) : Type 0 where
  pub more : ℕ
  pub items : new ≡ old ++ replicate more None
  pub bound : length new ≤ max (length old) (page + 1)

-- a part after one more slot of a table
abbrev pub with_slot : GuestPart → Option PageFrame → GuestPart
with_slot part None = part
with_slot part (Some frame) = with_frame part frame

-- the first `count` pages of the memory with these bytes are in the table, each with its stamp
pub record IsTableOf (shape : GuestShape) (bytes stamps : List ℕ) (count : ℕ)
    (table : List (Option PageFrame)) : Type 0 where
  pub count_is : length table ≡ count
  pub each : (page : ℕ) → page < count
      → (frame : PageFrame) × (slice_index_or table page None ≡ Some frame)
      × IsFrameOf shape page (slice_index_or stamps page 0) (page_of (memory_with shape.shift shape.pages bytes) page)
      frame
