use Rattle.std.proofs.Common.{◌≡◌, length}
use Rattle.stream_lanes.specs.Grids.{AddsWorker}
use Rattle.stream_lanes.proofs.new_lanes.add_worker.Given as goal

abbrev pub invariant-loop-stream : goal.invariant-loop-stream
invariant-loop-stream l = record {
  count : length l.outs.items ≡ l.stream;
  added : AddsWorker l.capacity l.outs.items l.fn.ins.items l.ins.items;
}
