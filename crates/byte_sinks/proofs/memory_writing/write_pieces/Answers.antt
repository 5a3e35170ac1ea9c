use Rattle.std.proofs.Common.{◌≡◌, ℕ, ◌+◌, ◌*◌, ◌^◌, ◌≤◌, drop, length, sym, subst, ◌∙◌, arith}
use Rattle.std.specs.Io.KnownBytes.{Appends}
use Rattle.std.specs.List.{between}
use Rattle.byte_sinks.specs.Pieces.{start_from}
use Rattle.byte_sinks.specs.Sink.{AppendsPart}
use Rattle.byte_sinks.proofs.Pieces.{on_err, whole, wrote_more, wrote_rest}
use Rattle.byte_sinks.proofs.memory_writing.write_pieces.Goals as goal

pub returns-in_err-write_each-clause-part : goal.returns-in_err-write_each-clause-part
returns-in_err-write_each-clause-part g c =
    let memory = g.M.PiecedMemory.memory c.args.memory.now in
    let first = c.loop-first.first in
    let start : start_from first 0 ≡ first * 2 ^ 18 = omega arith in
    on_err c.from_residual.result (wrote_rest _ _ _ (first * 2 ^ 18) memory.bytes
    c.loop-first.invariant.written
    (subst (λ (k : ℕ). AppendsPart (g.K.Sink.contents c.loop-first.sink) (g.K.Sink.contents c.write_each.new.sink)
    (drop k memory.bytes)) start
    (c.in_err-write_each.ensures.part (start_from first) memory.bytes c.fill_pieces.ensures.filled)))

pub loop-first-preserved : goal.loop-first-preserved
loop-first-preserved g c =
    let memory = g.M.PiecedMemory.memory c.args.memory.now in
    let first = c.loop-first.first in
    let count = length c.fill_pieces.new.pieces in
    let before = c.loop-first.invariant in
    let start : start_from first 0 ≡ first * 2 ^ 18 = omega arith in
    record {
      few = omega arith;
      written = wrote_more _ _ _ 0 (first * 2 ^ 18) ((first + count) * 2 ^ 18) memory.bytes (omega arith)
          (omega arith) before.written
          (subst (λ (k : ℕ). Appends (g.K.Sink.contents c.loop-first.sink) (g.K.Sink.contents c.write_each.new.sink)
          (between k ((first + count) * 2 ^ 18) memory.bytes)) start
          (c.in_ok-write_each.ensures.written (start_from first) memory.bytes c.fill_pieces.ensures.filled));
      unfailed = c.in_ok-write_each.ensures.unfailed;
      room = c.fill_pieces.ensures.room;
    }

pub returns-clause-written : goal.returns-clause-written
returns-clause-written g c =
    let memory = g.M.PiecedMemory.memory c.args.memory.now in
    let shape = c.shape.ensures in
    let size : c.memory_size-size.result ≡ length memory.bytes = c.memory_size-size.ensures.size
    ∙ (λ j. shape.pages j * 2 ^ shape.shift j) ∙ sym shape.is_memory.len in
    subst (Appends (g.K.Sink.contents c.args.sink.now) (g.K.Sink.contents c.loop-first.sink))
    (whole memory.bytes (c.loop-first.first * 2 ^ 18) (omega (arith, c.loop-first-test.false, size)))
    c.loop-first.invariant.written
