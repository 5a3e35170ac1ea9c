use Rattle.std.proofs.Common.{◌≡◌, ◌+◌, ◌*◌, ◌≤◌, length, take}
use Rattle.std.specs.List.{fold}
use Rattle.page_versions.proofs.packed.are_short.Given as goal

abbrev pub invariant-loop-index : goal.invariant-loop-index
invariant-loop-index g l = record {
  sum : l.sum ≡ fold (λ sum write. sum + length write.bytes) 0 (take l.index (g.W.WriteLog.trace l.trace).writes);
  small : l.sum ≤ 4_096 * l.index;
}
