use Rattle.std.proofs.Common.{ap, drop, length, ◌∙◌}
use Rattle.std.proofs.lemmas.Result.{IfErr-weaker}
use Rattle.trace_readers.proofs.Visits.{visiting_none}
use Rattle.trace_readers.proofs.incoming_trace.IncomingTrace.visit.Goals as goal

pub returns-clause-refused : goal.returns-clause-refused
returns-clause-refused g c =
    let visitor = c.args.visitor.now in
    let rest = c.take.ensures.rest ∙ ap (drop 16) c.self.view_is in
    let count = c.take.ensures.count ∙ c.self.invariant.0 ∙ ap length c.self.view_is in
    IfErr-weaker c.visit_rest.result _ _
    (λ e refused old came.
    refused visitor old
    (visiting_none (g.V.WriteVisitor.makes visitor visitor) old _ c.args.self c.none.result c.take.new.self
    c.none.ensures.count c.none.ensures.last rest (record { came = came; count_is = count })
    (rw c.none.ensures.header c.requires.header) c.requires.none))
    c.visit_rest.ensures.refused
