use Rattle.byte_sinks.proofs.Pieces.{on_err, wrote_all}
use Rattle.byte_sinks.proofs.writing.write_out.Goals as goal

pub returns-clause-part : goal.returns-clause-part
returns-clause-part g c = on_err c.flush.result (wrote_all _ _ _ c.args.bytes.now c.in_ok-write_all.ensures.written
    c.flush.ensures.kept)
