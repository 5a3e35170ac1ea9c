use Rattle.std.proofs.Common.{◌≡◌, ◌*◌, ◌^◌, length}
use Rattle.migration_model.specs.Memory.{replay, memory_with}
use Rattle.image_build.proofs.replaying.replay_reader.Given as goal

abbrev pub invariant-loop : goal.invariant-loop
invariant-loop l = record {
  bytes : l.reader.bytes ≡ l.fn.reader.bytes;
  shift : l.reader.shift ≡ l.shape.shift;
  pages : l.reader.pages ≡ l.shape.pages;
  count : l.reader.count ≡ l.shape.writes;
  read : length l.reader.writes ≡ l.counter;
  len : length l.memory.items ≡ l.shape.pages * 2 ^ l.shape.shift;
  made : replay l.shape.shift l.shape.pages l.reader.writes ≡ memory_with l.shape.shift l.shape.pages l.memory.items;
}
