use Rattle.std.proofs.Common.{◌≡◌, vec_len}
use Rattle.std.specs.List.{All}
use Rattle.byte_sinks.specs.Pieces.{HasRoom}
use Rattle.byte_sinks.proofs.making.new_pieces.Given as goal

abbrev pub invariant-loop : goal.invariant-loop
invariant-loop l = record {
  count : vec_len l.pieces ≡ l.counter;
  room : All (HasRoom l.shape.shift) l.pieces.items;
}
