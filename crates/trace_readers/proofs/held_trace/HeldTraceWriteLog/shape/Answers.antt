use Rattle.std.proofs.Common.{sym}
use Rattle.trace_readers.proofs.Texts.{count_of}
use Rattle.trace_readers.proofs.held_trace.HeldTraceWriteLog.shape.Goals as goal

pub returns-clause-writes : goal.returns-clause-writes
returns-clause-writes c = sym (count_of _ _ _ _ _ c.self.inside.bytes.items c.self.view_is)
