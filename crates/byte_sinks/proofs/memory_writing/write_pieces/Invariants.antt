use Rattle.std.proofs.Common.{◌≡◌, ◌≤◌, ◌-◌, ◌*◌, ◌^◌, false}
use Rattle.std.specs.Io.KnownBytes.{Appends}
use Rattle.std.specs.List.{All, between}
use Rattle.byte_sinks.specs.Pieces.{HasRoom}
use Rattle.byte_sinks.proofs.memory_writing.write_pieces.Given as goal

abbrev pub invariant-loop-first : goal.invariant-loop-first
invariant-loop-first g l =
    let memory = g.M.PiecedMemory.memory l.memory in
    record {
      few : l.first ≤ 2 ^ 17;
      written : Appends (g.K.Sink.contents l.fn.sink) (g.K.Sink.contents l.sink)
          (between 0 (l.first * 2 ^ 18) memory.bytes);
      unfailed : g.K.Sink.has_failed l.sink ≡ false;
      room : All (HasRoom memory.shift) l.pieces;
    }

abbrev pub decreases-loop-first : goal.decreases-loop-first
decreases-loop-first g l = l.size - l.first * 2 ^ 18
