use Rattle.std.proofs.lemmas.Result.{err_from_is_err_and}
use Rattle.trace_codec.proofs.Found.{cut_spelled, cut_viewed, cut_refused}
use Rattle.trace_codec.proofs.view.TraceView.whole.Goals as goal

pub returns-in_err-check_writes-clause-refused : goal.returns-in_err-check_writes-clause-refused
returns-in_err-check_writes-clause-refused c =
    let p = err_from_is_err_and c.from_residual-in_err-check_writes.result
    c.from_residual-in_err-check_writes.ensures.1 in
    rw (p.1, p.2) (cut_refused _ _ _ _ _ _ _ c.in_ok-header.ensures.cut c.in_err-check_writes.ensures.refused)

pub invariant_of-result : goal.invariant_of-result
invariant_of-result c =
    cut_viewed c.args.bytes.now _ _ _ _ _ c.in_ok-header.ensures.cut c.in_ok-check_writes.ensures.accepted

pub returns-clause-found : goal.returns-clause-found
returns-clause-found c =
    cut_spelled c.args.bytes.now _ _ _ _ _ c.in_ok-header.ensures.cut c.in_ok-check_writes.ensures.accepted
