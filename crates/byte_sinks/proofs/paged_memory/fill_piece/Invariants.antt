use Rattle.std.proofs.Common.{◌≡◌, ◌≤◌, ◌+◌, ◌*◌, ◌^◌, length, vec_len}
use Rattle.std.specs.List.{between}
use Rattle.std.specs.Prelude.{vec_capacity}
use Rattle.byte_sinks.proofs.paged_memory.fill_piece.Given as goal

abbrev pub invariant-loop-page : goal.invariant-loop-page
invariant-loop-page g l =
    let memory = g.M.PagedMemory.memory l.memory in
    record {
      rises : l.first ≤ l.page;
      filled : l.piece.items ≡ between (l.first * 2 ^ memory.shift) (l.page * 2 ^ memory.shift) memory.bytes;
      len : vec_len l.piece + l.first * 2 ^ memory.shift ≡ l.page * 2 ^ memory.shift;
      long : length l.buffer.items ≡ 2 ^ memory.shift;
      capacity : vec_capacity l.fn.piece ≤ vec_capacity l.piece;
    }
