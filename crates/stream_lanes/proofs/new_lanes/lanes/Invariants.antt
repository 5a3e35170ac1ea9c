use Rattle.stream_lanes.specs.Grids.{IsGrid}
use Rattle.stream_lanes.proofs.new_lanes.lanes.Given as goal

abbrev pub invariant-loop : goal.invariant-loop
invariant-loop l = IsGrid l.counter l.streams l.capacity l.outs.items l.ins.items
