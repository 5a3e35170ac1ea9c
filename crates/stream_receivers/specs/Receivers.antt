-- The receiver of a stream: the lanes it takes frames from, and the part they go into. This project's own.
use Rattle.std.specs.Prelude.{◌≡◌, ℕ, ◌≤◌, List, [], ◌∷◌, ◌++◌, Option, Some, length, slice_get, slice_set}
use Rattle.std.specs.List.{All}
use Rattle.migration_model.specs.Frames.{GuestShape, PageFrame, SpellsFrame}
use Rattle.migration_model.specs.Parts.{GuestPart, PageCopy, IsPart, copy_at, copy_in}
use Rattle.stream_lanes.specs.Ends.{OutView, InView, Begins, IsLane, SameIn}
use Rattle.stream_receivers.specs.declared.error.ReceiverError.{ReceiverError}

-- the lanes of a stream as their receiver holds them, in order of the workers; what arrived of the guest's memory; and
-- why a frame was refused, if one was: the first refusal
pub record ReceiverView : Type 0 where
  pub ends : List InView
  pub part : GuestPart
  pub refusal : Option ReceiverError

abbrev pub receiver_with : List InView → GuestPart → Option ReceiverError → ReceiverView
receiver_with ends part refusal = record { ends = ends; part = part; refusal = refusal }

-- each of these byte strings is the encoding of a frame
abbrev pub AreFrames : GuestShape → (List ℕ → Type 0) → Type 0
AreFrames shape IsText = (text : List ℕ) → IsText text → (frame : PageFrame) × SpellsFrame shape text frame

-- A part that has what these texts bring and nothing else: each of its copies is that of a frame among them, and for
-- each frame among them it has the page at the frame's stamp or a later one.
pub record HasFrames (shape : GuestShape) (IsText : List ℕ → Type 0) (part : GuestPart) : Type 0 where
  pub is_part : IsPart part
  pub shape_is : part.shape ≡ shape
  pub had : (page : ℕ) (copy : PageCopy) → copy_at part page ≡ Some copy
      → (text : List ℕ) × (frame : PageFrame) × IsText text × SpellsFrame shape text frame × (frame.page ≡ page)
      × (copy ≡ copy_in shape frame)
  pub came : (text : List ℕ) (frame : PageFrame) → IsText text → SpellsFrame shape text frame
      → (copy : PageCopy) × (copy_at part frame.page ≡ Some copy) × (frame.stamp ≤ copy.stamp)

-- the two ends of each worker's lane
pub record AreEnds (outs : List OutView) (ends : List InView) : Type 0 where
  pub count : length outs ≡ length ends
  pub each : (worker : ℕ) (out : OutView) (end : InView) → slice_get outs worker ≡ Some out
      → slice_get ends worker ≡ Some end
      → IsLane out end

-- the same, with nothing taken yet
pub record AreNewEnds (outs : List OutView) (ends : List InView) : Type 0 where
  pub are_ends : AreEnds outs ends
  pub nothing : All (λ end. end.taken ≡ []) ends

-- one more frame was taken from this worker's lane, and none from the others
pub record TakesOne (worker : ℕ) (old new : List InView) : Type 0 where
  pub before : InView
  pub after : InView
  pub text : List ℕ
  pub was : slice_get old worker ≡ Some before
  pub is : new ≡ slice_set old worker after
  pub lane : SameIn before after
  pub taken : after.taken ≡ before.taken ++ text ∷ []
  pub seen : Begins before.seen (text ∷ after.seen)
