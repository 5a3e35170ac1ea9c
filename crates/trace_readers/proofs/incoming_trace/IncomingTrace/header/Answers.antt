use Rattle.std.proofs.Common.{subst, ◌∙◌}
use Rattle.std.specs.Prelude.{IfOk}
use Rattle.trace_readers.specs.Visits.{IsHeaderOf}
use Rattle.trace_readers.proofs.Visits.{header_is}
use Rattle.trace_readers.proofs.incoming_trace.IncomingTrace.header.Goals as goal

pub returns-clause-header : goal.returns-clause-header
returns-clause-header c =
    let read = c.read_header.ensures in
    subst (λ text. IfOk c.read_header.result (IsHeaderOf text)) (c.rest.ensures ∙ c.self.view_is)
    (header_is c.read_header.result c.rest.result.now (rw c.rest.ensures c.self.invariant.1) read.accepted read.version
    read.shift read.pages read.writes)
