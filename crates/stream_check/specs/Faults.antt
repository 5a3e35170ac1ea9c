-- What is wrong with a frame of a migration that is to leave the memory after the first `stop` writes of a trace. This
-- project's own.
use Rattle.std.specs.Prelude.{◌≡◌, ◌≢◌, ◌⊎◌, ◌<◌, ◌≤◌, ℕ, List, [], ◌∷◌, ◌++◌, length, take, drop, Option, Some, IfSome}
use Rattle.std.specs.List.{All, flat_map}
use Rattle.migration_model.specs.Trace.{GuestTrace}
use Rattle.migration_model.specs.Versions.{page_at}
use Rattle.migration_model.specs.Frames.{PageFrame, IsFrame, SpellsFrame, content_of, frame_text}
use Rattle.migration_model.specs.Final.{shape_of_trace}
use Rattle.page_message.specs.Refusals.{frame_refusal}
use Rattle.page_versions.specs.Index.{version_after}
use Rattle.stream_check.specs.Stamps.{stamp_of, keep_last, last_stamps}
use Rattle.page_message.specs.declared.error.FrameError.{FrameError}
use Rattle.stream_check.specs.declared.faults.FrameCause.{FrameCause}
use Rattle.stream_check.specs.declared.faults.FrameCause.TheVariants.{Refused, NoVersion, AfterStop, Older, Bytes}
use Rattle.stream_check.specs.declared.faults.FrameFault.{FrameFault}
use Rattle.stream_check.specs.declared.faults.WrongFrame.{WrongFrame}

-- a stamp with which nothing is wrong: that of a version of its page, from before the stop, and not below the last one
-- of the page in its stream
pub record IsRightStamp (trace : GuestTrace) (stop : ℕ) (last : Option ℕ) (page stamp : ℕ) : Type 0 where
  pub version : stamp ≡ version_after trace page stamp
  pub in_time : stamp ≤ stop
  pub in_order : IfSome last (λ came. came ≤ stamp)

-- a frame with which nothing is wrong: it has the bytes of its page at its stamp, too
pub record IsRight (trace : GuestTrace) (stop : ℕ) (last : Option ℕ) (frame : PageFrame) : Type 0 where
  pub right : IsRightStamp trace stop last frame.page frame.stamp
  pub bytes : content_of (shape_of_trace trace) frame ≡ page_at trace frame.page frame.stamp

-- This is the first thing that is wrong with a stamp, and `wanted` what was to be: the version of the page after that
-- many writes; or its version at the stop; or the last stamp, or a greater one.
abbrev pub IsStampFault : GuestTrace → ℕ → Option ℕ → ℕ → ℕ → FrameCause → ℕ → Type 0
IsStampFault trace stop last page stamp NoVersion wanted =
    (wanted ≡ version_after trace page stamp) × (stamp ≢ wanted)
IsStampFault trace stop last page stamp AfterStop wanted =
    (stamp ≡ version_after trace page stamp) × (stop < stamp) × (wanted ≡ version_after trace page stop)
IsStampFault trace stop last page stamp Older wanted =
    (stamp ≡ version_after trace page stamp) × (stamp ≤ stop) × (last ≡ Some wanted) × (stamp < wanted)
IsStampFault trace stop last page stamp Bytes wanted = ⊥
IsStampFault trace stop last page stamp (Refused e) wanted = ⊥

-- this is the first thing that is wrong with a frame: its stamp, or else its bytes, which are not those at its stamp
abbrev pub IsFault : GuestTrace → ℕ → Option ℕ → PageFrame → FrameCause → ℕ → Type 0
IsFault trace stop last frame Bytes wanted = IsRightStamp trace stop last frame.page frame.stamp
    × (content_of (shape_of_trace trace) frame ≢ page_at trace frame.page frame.stamp) × (wanted ≡ frame.stamp)
IsFault trace stop last frame NoVersion wanted =
    IsStampFault trace stop last frame.page frame.stamp NoVersion wanted
IsFault trace stop last frame AfterStop wanted =
    IsStampFault trace stop last frame.page frame.stamp AfterStop wanted
IsFault trace stop last frame Older wanted = IsStampFault trace stop last frame.page frame.stamp Older wanted
IsFault trace stop last frame (Refused e) wanted = ⊥

-- frames one after another, after these last stamps of their stream, with none of which anything is wrong
abbrev pub AreRight : GuestTrace → ℕ → List (Option ℕ) → List PageFrame → Type 0
AreRight trace stop last [] = Unit {0}
AreRight trace stop last (frame ∷ frames) = IsRight trace stop (stamp_of last frame.page) frame
    × AreRight trace stop (keep_last last frame) frames

-- such frames are at the front of these bytes, and `rest` is behind them
pub record BeginsRight (trace : GuestTrace) (stop : ℕ) (last : List (Option ℕ)) (bytes : List ℕ)
    (frames : List PageFrame) (rest : List ℕ) : Type 0 where
  pub are_frames : All (IsFrame (shape_of_trace trace)) frames
  pub right : AreRight trace stop last frames
  pub text : bytes ≡ flat_map frame_text frames ++ rest

-- the bytes begin with a frame, and this is the first thing that is wrong with it
pub record BeginsWrong (trace : GuestTrace) (stop : ℕ) (last : List (Option ℕ)) (bytes : List ℕ)
    (fault : FrameFault) : Type 0 where
  pub frame : PageFrame
  pub size : ℕ
  pub spells : SpellsFrame (shape_of_trace trace) (take size bytes) frame
  pub page_is : fault.page ≡ frame.page
  pub stamp_is : fault.stamp ≡ frame.stamp
  pub wrong : IsFault trace stop (stamp_of last frame.page) frame fault.cause fault.wanted

-- what is wrong with bytes that are refused as a frame: that alone, without a page and its stamps
abbrev pub refused_for : FrameError → FrameFault
refused_for e = record { cause = Refused e; page = 0; stamp = 0; wanted = 0 }

-- this is wrong at the front of some bytes: they are refused as a frame, or their first frame is wrong
abbrev pub IsWrongFront : GuestTrace → ℕ → List (Option ℕ) → List ℕ → FrameFault → Type 0
IsWrongFront trace stop last bytes fault =
    ((e : FrameError) × (fault ≡ refused_for e) × (frame_refusal (shape_of_trace trace) bytes ≡ Some e))
    ⊎ BeginsWrong trace stop last bytes fault

-- The first frame of a stream's bytes that is wrong, by its number and where it begins, after these last stamps of the
-- stream; and what is wrong with it. Those before it are right.
pub record IsFirstWrong (trace : GuestTrace) (stop : ℕ) (last : List (Option ℕ)) (bytes : List ℕ)
    (found : WrongFrame) : Type 0 where
  pub frames : List PageFrame
  pub number : length frames ≡ found.number
  pub begins : BeginsRight trace stop last bytes frames (drop found.offset bytes)
  pub within : found.offset < length bytes
  pub wrong : IsWrongFront trace stop (last_stamps last frames) (drop found.offset bytes) found.fault
