use Rattle.std.proofs.Common.{sym}
use Rattle.trace_readers.proofs.Texts.{count_of}
use Rattle.open_traces.proofs.open_trace.OpenTraceWriteLog.shape.Goals as goal

pub returns-clause-writes : goal.returns-clause-writes
returns-clause-writes c = sym (count_of _ _ _ _ _ c.self.inside.bytes.now c.self.view_is)
