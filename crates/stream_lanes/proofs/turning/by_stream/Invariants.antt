use Rattle.std.proofs.Common.{◌≡◌, ◌++◌}
use Rattle.std.specs.Vec.Iter.{into_iter_items}
use Rattle.stream_lanes.specs.Grids.{AreColumns}
use Rattle.stream_lanes.proofs.turning.by_stream.Given as goal

abbrev pub invariant-loop-row : goal.invariant-loop-row
invariant-loop-row l = record {
  all : l.yielded ++ into_iter_items l.row-iterator ≡ l.fn.rows.items;
  columns : AreColumns l.streams l.yielded l.columns.items;
}
