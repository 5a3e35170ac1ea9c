use Rattle.std.proofs.Common.{◌≡◌, ◌++◌, length, map}
use Rattle.std.specs.Iterator.Adapters.{enumerate_count, enumerate_source}
use Rattle.std.specs.Vec.Iter.{into_iter_items}
use Rattle.stream_lanes.specs.Grids.{AddsRow}
use Rattle.stream_lanes.proofs.turning.add_row.Given as goal

abbrev pub invariant-loop-stream : goal.invariant-loop-stream
invariant-loop-stream l = record {
  count : enumerate_count l.stream-iterator ≡ length l.yielded;
  all : map (λ p. p.1) l.yielded ++ into_iter_items (enumerate_source l.stream-iterator) ≡ l.fn.row.items;
  adds : AddsRow (map (λ p. p.1) l.yielded) l.fn.columns.items l.columns.items;
}
