use Rattle.std.proofs.Common.{◌≡◌, map, replicate, []}
use Rattle.stream_lanes.proofs.turning.empty_columns.Given as goal

abbrev pub invariant-loop : goal.invariant-loop
invariant-loop l = map (λ s. s.items) l.columns.items ≡ replicate l.counter []
