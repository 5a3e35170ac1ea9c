use Rattle.std.proofs.Common.{subst}
use Rattle.migration_model.specs.Memory.{GuestMemory, IsMemory}
use Rattle.dealt_memory.proofs.Joined.{length_joined}
use Rattle.dealt_memory.proofs.memory.DealtMemoryPiecedMemory.shape.Goals as goal

pub returns-clause-is_memory : goal.returns-clause-is_memory
returns-clause-is_memory c =
    let shape = c.self.inside.shape in
    subst (λ (m : GuestMemory). IsMemory m.shift m.pages m.bytes) c.self.view_is
    (record {
      size = record {
        shift_low = shape.shift_low;
        shift_high = shape.shift_high;
        pages_low = shape.pages_low;
        pages_high = shape.pages_high;
      };
      len = length_joined shape.shift shape.pages c.self.inside.pieces.items shape.shift_high c.self.invariant;
    })
