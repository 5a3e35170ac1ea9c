use Rattle.std.proofs.Common.{◌≡◌, ◌*◌, ◌^◌, drop, length}
use Rattle.std.specs.List.{fold}
use Rattle.migration_model.specs.Memory.{apply, memory_with}
use Rattle.dealt_memory.specs.Spots.{HoldsWrites, spotted}
use Rattle.dealt_memory.proofs.piece_writes.put_spots.Given as goal

abbrev pub invariant-loop-spot : goal.invariant-loop-spot
invariant-loop-spot l = record {
  holds : HoldsWrites l.shape.shift l.shape.pages (drop l.spot-index l.spots) l.rest;
  len : length l.memory ≡ l.shape.pages * 2 ^ l.shape.shift;
  made : fold apply (memory_with l.shape.shift l.shape.pages l.memory) (spotted (drop l.spot-index l.spots) l.rest)
      ≡ fold apply (memory_with l.shape.shift l.shape.pages l.fn.memory) (spotted l.spots l.written);
}
