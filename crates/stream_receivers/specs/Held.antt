-- What is known of a part to which encoded frames come until one of them is refused.
use Rattle.std.specs.Prelude.{◌≡◌, ℕ, List, ◌++◌, Option, Some, None, IfSome}
use Rattle.std.specs.List.{All}
use Rattle.migration_model.specs.Frames.{GuestShape, PageFrame, SpellsFrame}
use Rattle.migration_model.specs.Parts.{GuestPart}
use Rattle.stream_lanes.specs.Ends.{IsTakenFrom}
use Rattle.stream_receivers.specs.Receivers.{AreFrames, HasFrames, ReceiverView}
use Rattle.stream_receivers.specs.Texts.{TakesTexts}
use Rattle.stream_receivers.specs.declared.error.ReceiverError.{ReceiverError}
use Rattle.stream_receivers.specs.declared.error.ReceiverError.TheVariants.{Memory}

-- While nothing is refused, only frames came, and the part has them. If only frames came, only memory can be refused.
pub record IsHeld (shape : GuestShape) (IsText : List ℕ → Type 0)
    (part : GuestPart) (refusal : Option ReceiverError) : Type 0 where
  pub frames : refusal ≡ None → AreFrames shape IsText
  pub has : refusal ≡ None → HasFrames shape IsText part
  pub refused : AreFrames shape IsText → IfSome refusal (λ e. e ≡ Memory)

-- what is known of a receiver's part, from all that was taken from its lanes
abbrev pub IsReceiver : ReceiverView → Type 0
IsReceiver r = IsHeld r.part.shape (IsTakenFrom r.ends) r.part r.refusal

-- These texts came, with this refusal before and after: they were taken, or one of them is refused, or one was before.
-- If they are frames, a refusal is only for lack of memory.
pub record Accepts (old new : GuestPart) (before after : Option ReceiverError) (texts : List (List ℕ)) : Type 0 where
  pub shape : new.shape ≡ old.shape
  pub kept : IfSome before (λ e. after ≡ Some e)
  pub taken : after ≡ None → (before ≡ None) × TakesTexts old new texts
  pub only : before ≡ None → All (λ text. (frame : PageFrame) × SpellsFrame old.shape text frame) texts
      → IfSome after (λ e. e ≡ Memory)

-- the first of all these texts came, and these remain
pub record AcceptsFirst (old new : GuestPart) (before after : Option ReceiverError)
    (all rest : List (List ℕ)) : Type 0 where
  pub texts : List (List ℕ)
  pub together : texts ++ rest ≡ all
  pub accepts : Accepts old new before after texts
