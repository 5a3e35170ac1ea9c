-- Frames of marked pages, and the parts that they are dealt out to.
use Rattle.std.specs.Prelude.{◌≡◌, ℕ, ◌+◌, ◌%◌, Bool, List, [], ◌∷◌, length, map, slice_index_or, slice_set}
use Rattle.std.specs.List.{All, filter, range_with_len}
use Rattle.migration_model.specs.Final.{current_copy, shape_of_trace}
use Rattle.migration_model.specs.Frames.{PageFrame, IsFrame, shape_with}
use Rattle.migration_model.specs.Parts.{GuestPart, copy_in, empty_part, with_frame}
use Rattle.migration_model.specs.Trace.{GuestTrace}

-- the marked pages of a guest with `pages` pages, in ascending order
abbrev pub marked_pages : (ℕ → Bool) → ℕ → List ℕ
marked_pages marked pages = filter marked (range_with_len 0 pages)

-- the frame of a page as it is at its version
pub record IsCurrentFrame (trace : GuestTrace) (versions : List ℕ) (frame : PageFrame) : Type 0 where
  pub fits : IsFrame (shape_of_trace trace) frame
  pub copy : copy_in (shape_of_trace trace) frame ≡ current_copy trace versions frame.page

-- such frames of these pages, in order
pub record AreCurrentFrames (trace : GuestTrace) (versions pages : List ℕ) (frames : List PageFrame) : Type 0 where
  pub pages_are : map (λ frame. frame.page) frames ≡ pages
  pub each : All (IsCurrentFrame trace versions) frames

-- the parts after these frames came to them in turn, the first to the part with this number
abbrev pub after_dealing : ℕ → List GuestPart → List PageFrame → List GuestPart
after_dealing turn parts [] = parts
after_dealing turn parts (frame ∷ frames) =
    after_dealing ((turn + 1) % length parts)
    (slice_set parts turn (with_frame (slice_index_or parts turn (empty_part (shape_with 0 0 0))) frame)) frames
