-- Receivers of a migration's streams, and the memory that they are left with. This project's own.
use Rattle.std.specs.Prelude.{◌≡◌, ◌<◌, ◌≢◌, ℕ, List, slice_set, Some, None}
use Rattle.std.specs.List.{All, flat_map, fold}
use Rattle.migration_model.specs.Trace.{GuestTrace}
use Rattle.migration_model.specs.Memory.{image_after}
use Rattle.migration_model.specs.Frames.{PageFrame, IsFrame}
use Rattle.migration_model.specs.Final.{shape_of_trace}
use Rattle.migration_model.specs.Images.{memory_in}
use Rattle.migration_model.specs.Parts.{GuestPart, copy_at, copy_in, part_with}
use Rattle.stream_check.specs.Stamps.{no_stamps, greatest_stamps}
use Rattle.stream_check.specs.Faults.{AreRight}
use Rattle.stream_check.specs.Ends.{AreCurrentStamps}

-- a part that keeps the last frame of each page, after one more frame, and after these, in order
abbrev pub with_last : GuestPart → PageFrame → GuestPart
with_last part frame = part_with part.shape (slice_set part.copies frame.page (Some (copy_in part.shape frame)))

abbrev pub with_last_frames : GuestPart → List PageFrame → GuestPart
with_last_frames part frames = fold with_last part frames

-- all frames of these streams, one stream after the other
abbrev pub all_frames : List (List PageFrame) → List PageFrame
all_frames streams = flat_map (λ frames. frames) streams

-- streams of frames with none of which anything is wrong, after which each page is current
pub record AreRightStreams (trace : GuestTrace) (stop : ℕ) (streams : List (List PageFrame)) : Type 0 where
  pub are_frames : All (All (IsFrame (shape_of_trace trace))) streams
  pub right : All (AreRight trace stop (no_stamps trace.pages)) streams
  pub current : AreCurrentStamps trace stop (greatest_stamps (no_stamps trace.pages) (all_frames streams))

-- the part has each page of the guest, and its memory is that after the first `stop` writes
abbrev pub HasMemoryAt : GuestTrace → ℕ → GuestPart → Type 0
HasMemoryAt trace stop part = ((page : ℕ) → page < trace.pages → copy_at part page ≢ None)
    × (memory_in part ≡ image_after trace stop)
