-- The model's value for a shape.
use Rattle.migration_model.specs.Frames.{GuestShape, shape_with}
use Rattle.guest_log.specs.declared.shape.Shape.{Shape}

abbrev pub shape_of : Shape → GuestShape
shape_of shape = shape_with shape.shift shape.pages shape.writes
