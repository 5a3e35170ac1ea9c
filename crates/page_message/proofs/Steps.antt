-- The tests of a frame, one after another.
use Rattle.std.proofs.Common.{◌≡◌, Bool, true, false, cond, Option, Some, None, refl}
use Rattle.migration_model.specs.Frames.{IsGuestShape}
use Rattle.guest_log.specs.declared.shape.Shape.{Shape}
use Rattle.page_message.specs.declared.error.FrameError.{FrameError}
use Rattle.page_message.specs.Shapes.{shape_of}

-- a test that let something pass
pub passed : (b : Bool) (e : FrameError) (others : Option FrameError) → cond b (Some e) others ≡ None
    → (b ≡ false) × (others ≡ None)
passed true e others is = absurd cc
passed false e others is = (refl, is)

-- a test that lets something pass
pub passes : (b : Bool) (e : FrameError) (others : Option FrameError) → b ≡ false → others ≡ None
    → cond b (Some e) others ≡ None
passes b e others is none = rw is none

-- what a shape's type says about it
pub IsGuestShape-from_shape : (shape : Shape) → IsGuestShape (shape_of shape)
IsGuestShape-from_shape shape =
    record {
      size = record {
        shift_low = shape.shift_low;
        shift_high = shape.shift_high;
        pages_low = shape.pages_low;
        pages_high = shape.pages_high;
      };
      few = shape.writes_high;
    }
