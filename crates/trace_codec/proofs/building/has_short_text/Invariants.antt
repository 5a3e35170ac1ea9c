use Rattle.std.proofs.Common.{◌≡◌, ◌≤◌, ◌+◌, take, length}
use Rattle.std.specs.List.{sum_by}
use Rattle.trace_codec.proofs.building.has_short_text.Given as goal

abbrev pub invariant-loop-write : goal.invariant-loop-write
invariant-loop-write l = record {
  sum : l.length ≡ 16 + sum_by (λ write. 16 + length write.bytes) (take l.write-index l.writes);
  short : l.length ≤ 268435456;
}
