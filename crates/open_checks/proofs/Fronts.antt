-- A frame at the front of bytes, by what is lent.
use Rattle.std.proofs.Common.{◌≡◌, ℕ, List, take, Option, inr, subst}
use Rattle.migration_model.specs.Final.{shape_of_trace}
use Rattle.migration_model.specs.Frames.{GuestShape, PageFrame, SpellsFrame, shape_with}
use Rattle.migration_model.specs.Trace.{GuestTrace}
use Rattle.stream_check.specs.Faults.{IsFault, IsWrongFront}
use Rattle.stream_check.specs.Stamps.{stamp_of}
use Rattle.stream_check.specs.declared.faults.FrameFault.{FrameFault}

pub same_shape : (trace : GuestTrace) (shape : GuestShape) → shape.shift ≡ trace.shift → shape.pages ≡ trace.pages
    → shape.writes ≡ (shape_of_trace trace).writes → shape ≡ shape_of_trace trace
same_shape trace shape shift pages writes = λ i. shape_with (shift i) (pages i) (writes i)

-- the first frame is wrong
pub front_wrong : (trace : GuestTrace) (stop : ℕ) (last : List (Option ℕ)) (bytes : List ℕ) (frame : PageFrame)
    (size : ℕ) (came : Option ℕ) (fault : FrameFault) → SpellsFrame (shape_of_trace trace) (take size bytes) frame
    → came ≡ stamp_of last frame.page
    → (fault.page ≡ frame.page) × (fault.stamp ≡ frame.stamp) × IsFault trace stop came frame fault.cause fault.wanted
    → IsWrongFront trace stop last bytes fault
front_wrong trace stop last bytes frame size came fault spells own wrong =
    inr (record {
      frame = frame;
      size = size;
      spells = spells;
      page_is = wrong.0;
      stamp_is = wrong.1;
      wrong = subst (λ (o : Option ℕ). IsFault trace stop o frame fault.cause fault.wanted) own wrong.2;
    })
