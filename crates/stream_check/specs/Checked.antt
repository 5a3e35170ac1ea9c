-- What a checker knows of the streams that came to it, and what it makes of more bytes. This project's own.
use Rattle.std.specs.Prelude.{◌≡◌, ◌≤◌, ◌+◌, ◌^◌, ℕ, List, Option, Some, drop, length}
use Rattle.migration_model.specs.Trace.{GuestTrace}
use Rattle.migration_model.specs.Frames.{GuestShape, PageFrame}
use Rattle.migration_model.specs.Final.{shape_of_trace}
use Rattle.page_message.specs.Refusals.{frame_refusal}
use Rattle.page_message.specs.declared.error.FrameError.TheVariants.{Short}
use Rattle.stream_check.specs.Stamps.{no_stamps, last_stamps, greatest_stamps}
use Rattle.stream_check.specs.Faults.{BeginsRight, IsFirstWrong}
use Rattle.stream_check.specs.declared.taken.Taken.{Taken}
use Rattle.stream_check.specs.declared.faults.WrongFrame.{WrongFrame}

-- the place of the stop, the last stamps of the stream that comes now, and the greatest stamps of all streams
pub record Checked : Type 0 where
  pub shape : GuestShape
  pub stop : ℕ
  pub last : List (Option ℕ)
  pub greatest : List (Option ℕ)

abbrev pub checked_with : GuestShape → ℕ → List (Option ℕ) → List (Option ℕ) → Checked
checked_with shape stop last greatest = record { shape = shape; stop = stop; last = last; greatest = greatest }

-- there is a slot for each page, and room for the bytes of one
pub record HasRoom (shift pages : ℕ) (last greatest : List (Option ℕ)) (room : List ℕ) : Type 0 where
  pub for_last : length last ≡ pages
  pub for_greatest : length greatest ≡ pages
  pub for_page : length room ≡ 2 ^ shift

-- before any frame
abbrev pub unchecked : GuestShape → ℕ → Checked
unchecked shape stop = checked_with shape stop (no_stamps shape.pages) (no_stamps shape.pages)

-- after more frames of the stream that comes now
abbrev pub after_frames : Checked → List PageFrame → Checked
after_frames old frames =
    checked_with old.shape old.stop (last_stamps old.last frames) (greatest_stamps old.greatest frames)

-- after the end of that stream
abbrev pub after_stream : Checked → Checked
after_stream old = checked_with old.shape old.stop (no_stamps old.shape.pages) old.greatest

-- `count` frames at the front of some bytes are right, and taken
pub record TakesRight (trace : GuestTrace) (old new : Checked) (bytes : List ℕ) (count : ℕ)
    (rest : List ℕ) : Type 0 where
  pub frames : List PageFrame
  pub count_is : length frames ≡ count
  pub begins : BeginsRight trace old.stop old.last bytes frames rest
  pub after : new ≡ after_frames old frames

-- all whole frames of the bytes are right, and taken; the rest is no whole frame
pub record TakesAll (trace : GuestTrace) (old new : Checked) (bytes : List ℕ) (taken : Taken) : Type 0 where
  pub takes : TakesRight trace old new bytes taken.frames (drop taken.bytes bytes)
  pub within : taken.bytes ≤ length bytes
  pub part : frame_refusal (shape_of_trace trace) (drop taken.bytes bytes) ≡ Some Short

-- the frames before the first that is wrong are taken
pub record StopsAt (trace : GuestTrace) (old new : Checked) (bytes : List ℕ) (found : WrongFrame) : Type 0 where
  pub first : IsFirstWrong trace old.stop old.last bytes found
  pub after : new ≡ after_frames old first.frames

-- how much of two pieces was taken, if so much of the first was, and so much of what it left and the second
abbrev pub both_taken : Taken → Taken → Taken
both_taken first second = record { frames = first.frames + second.frames; bytes = first.bytes + second.bytes }

-- a wrong frame behind what was taken of the first piece, counted from the front of that
abbrev pub behind_taken : Taken → WrongFrame → WrongFrame
behind_taken first found =
    record { number = first.frames + found.number; offset = first.bytes + found.offset; fault = found.fault }
