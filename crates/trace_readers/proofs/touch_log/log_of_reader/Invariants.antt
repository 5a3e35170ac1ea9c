use Rattle.std.proofs.Common.{◌≡◌, length, map}
use Rattle.migration_model.specs.Touches.{touch_of}
use Rattle.trace_readers.proofs.touch_log.log_of_reader.Given as goal

abbrev pub invariant-loop : goal.invariant-loop
invariant-loop l = record {
  bytes : l.reader.bytes ≡ l.fn.reader.bytes;
  version : l.reader.version ≡ l.header.version;
  shift : l.reader.shift ≡ l.header.shape.shift;
  pages : l.reader.pages ≡ l.header.shape.pages;
  count : l.reader.count ≡ l.header.shape.writes;
  read : length l.reader.writes ≡ l.counter;
  touched : l.touches.items ≡ map touch_of l.reader.writes;
}
