use Rattle.std.proofs.Common.{subst}
use Rattle.migration_model.specs.Parts.{IsPart}
use Rattle.page_message.specs.Shapes.{shape_of}
use Rattle.page_message.proofs.Steps.{IsGuestShape-from_shape}
use Rattle.collector.proofs.Tabled.{IsPart-from_table}
use Rattle.collector.proofs.part.Part.shape.Goals as goal

pub returns-clause-is_part : goal.returns-clause-is_part
returns-clause-is_part c =
    subst IsPart c.self.view_is (IsPart-from_table (shape_of c.self.inside.shape) c.self.inside.frames.items
    (IsGuestShape-from_shape c.self.inside.shape) c.self.invariant)
