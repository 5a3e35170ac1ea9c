use Rattle.std.proofs.Common.{◌≡◌, ℕ, List, false}
use Rattle.std.specs.Io.KnownBytes.{Appends}
use Rattle.std.specs.List.{between}
use Rattle.byte_sinks.specs.Pieces.{AreCuts}
use Rattle.byte_sinks.proofs.memory_writing.write_each.Given as goal

abbrev pub invariant-loop-piece : goal.invariant-loop-piece
invariant-loop-piece g l = record {
  written : (starts : ℕ → ℕ) (bytes : List ℕ) → AreCuts starts bytes l.pieces
      → Appends (g.K.Sink.contents l.fn.sink) (g.K.Sink.contents l.sink)
      (between (starts 0) (starts l.piece-index) bytes);
  unfailed : g.K.Sink.has_failed l.sink ≡ false;
}
