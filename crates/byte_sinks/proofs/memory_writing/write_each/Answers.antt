use Rattle.std.proofs.Common.{◌+◌, ap, subst, ◌∙◌, arith}
use Rattle.std.specs.Io.KnownBytes.{Appends}
use Rattle.byte_sinks.specs.Sink.{AppendsPart}
use Rattle.byte_sinks.specs.declared.making.Piece.{Piece}
use Rattle.byte_sinks.proofs.Pieces.{on_err, wrote_more, wrote_none, wrote_part}
use Rattle.byte_sinks.proofs.memory_writing.write_each.Goals as goal

pub loop-piece-init : goal.loop-piece-init
loop-piece-init g c = record {
  written = λ starts bytes cuts. wrote_none _ (starts 0) bytes;
  unfailed = c.requires;
}

pub loop-piece-preserved : goal.loop-piece-preserved
loop-piece-preserved g c =
    let i = c.loop-piece.piece-index in
    let piece = c.piece-item.result in
    record {
      written = λ starts bytes cuts.
          let held = c.deref.ensures.value ∙ ap (λ (p : Piece). p.bytes.items) c.piece-item.is
          ∙ cuts.1 i piece (omega (arith, c.loop-piece-test.true)) in
          wrote_more _ _ _ (starts 0) (starts i) (starts (i + 1)) bytes (cuts.0 i).0 (cuts.0 i).1
          (c.loop-piece.invariant.written starts bytes cuts)
          (subst (Appends _ _) held c.in_ok-write_all.ensures.written);
      unfailed = c.in_ok-write_all.ensures.unfailed;
    }

pub returns-in_err-write_all-clause-part : goal.returns-in_err-write_all-clause-part
returns-in_err-write_all-clause-part g c =
    let i = c.loop-piece.piece-index in
    let piece = c.piece-item.result in
    on_err c.from_residual.result (λ starts bytes cuts.
    let held = c.deref.ensures.value ∙ ap (λ (p : Piece). p.bytes.items) c.piece-item.is
    ∙ cuts.1 i piece (omega (arith, c.loop-piece-test.true)) in
    wrote_part _ _ _ (starts 0) (starts i) (starts (i + 1)) bytes (cuts.0 i).0
    (c.loop-piece.invariant.written starts bytes cuts)
    (subst (AppendsPart _ _) held c.in_err-write_all.ensures.part))
