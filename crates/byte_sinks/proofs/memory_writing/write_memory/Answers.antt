use Rattle.byte_sinks.proofs.Pieces.{if_err, wrote_all}
use Rattle.byte_sinks.proofs.memory_writing.write_memory.Goals as goal

pub returns-clause-part : goal.returns-clause-part
returns-clause-part g c = if_err c.flush.result (λ e is. wrote_all _ _ _
    (g.M.PiecedMemory.memory c.args.memory.now).bytes c.in_ok-write_pieces.ensures.written c.flush.ensures.kept)
