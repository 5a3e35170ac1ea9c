use Rattle.std.proofs.Common.{◌+◌, ◌-◌, ◌≡◌, ◌≤◌, ℕ, List, false, length, vec_len}
use Rattle.std.specs.Io.KnownBytes.{Consumes}
use Rattle.trace_readers.proofs.pieces.Pieces.read_on.Given as goal

abbrev pub invariant-loop-count : goal.invariant-loop-count
invariant-loop-count g l = record {
  came : (more : List ℕ) × Consumes (g.S.Source.remaining l.fn.source) (g.S.Source.remaining l.source) more
      × (l.count ≡ l.fn.self.count + length more);
  room : (l.self-inside.start ≤ l.self-inside.filled) × (l.self-inside.filled ≤ vec_len l.self-inside.room)
      × (262144 ≤ vec_len l.self-inside.room)
      × (vec_len l.self-inside.room ≤ l.self-inside.filled + 262144);
  bound : l.count ≤ 268435456 + vec_len l.self-inside.room;
  unfailed : g.S.Source.has_failed l.source ≡ false;
}

abbrev pub decreases-loop-count : goal.decreases-loop-count
decreases-loop-count g l = 268435456 + 1 - l.count
