use Rattle.std.proofs.Common.{◌≡◌, ◌+◌, ◌-◌, ◌*◌, ◌^◌, ◌<◌, ◌≤◌, ℕ, get_or, length, replicate}
use Rattle.migration_model.specs.Memory.{GuestMemory}
use Rattle.dealt_memory.specs.Pieces.{IsPiece}
use Rattle.dealt_memory.proofs.Joined.{bytes_of}
use Rattle.dealt_memory.proofs.memory.DealtMemory.blank.Given as goal

abbrev pub invariant-loop-left : goal.invariant-loop-left
invariant-loop-left l = record {
  left : l.left ≡ l.shape.pages - length l.pieces.items * 2 ^ (18 - l.shape.shift);
  each : (number : ℕ) (d : GuestMemory) → number < length l.pieces.items
      → IsPiece l.shape.shift l.shape.pages number (get_or l.pieces.items number d);
  none : bytes_of l.pieces.items ≡ replicate ((l.shape.pages - l.left) * 2 ^ l.shape.shift) 0;
}

abbrev pub decreases-loop-left : goal.decreases-loop-left
decreases-loop-left l = l.left
