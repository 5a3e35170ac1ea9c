use Rattle.trace_readers.proofs.Visits.{held_refused}
use Rattle.trace_readers.proofs.incoming_trace.IncomingTrace.hold.Goals as goal

pub returns-clause-refused : goal.returns-clause-refused
returns-clause-refused g c =
    held_refused c.of_text.result _ _ c.args.self c.in_ok-text.text
    (rw (c.into_rest.ensures, c.self.view_is) at c.in_ok-text.ensures.whole) c.of_text.ensures.refused
