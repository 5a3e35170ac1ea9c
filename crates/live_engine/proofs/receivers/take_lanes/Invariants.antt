use Rattle.std.proofs.Common.{◌≡◌, ◌+◌, ◌++◌, length, map}
use Rattle.live_engine.specs.Lists.{rows_of}
use Rattle.live_engine.proofs.receivers.take_lanes.Given as goal

abbrev pub invariant-loop : goal.invariant-loop
invariant-loop l = record {
  count : length l.states.items + l.counter ≡ length l.fn.states.items;
  rows : map (λ row. row.items) l.rows.items ++ rows_of l.states.items ≡ rows_of l.fn.states.items;
}
