use Rattle.std.proofs.Common.{◌≡◌, map, replicate, []}
use Rattle.stream_lanes.proofs.new_lanes.empty_ins.Given as goal

abbrev pub invariant-loop : goal.invariant-loop
invariant-loop l = map (λ s. s.items) l.ins.items ≡ replicate l.counter []
