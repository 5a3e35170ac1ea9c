use Rattle.std.proofs.Common.{Err, ap, ◌∙◌}
use Rattle.std.proofs.lemmas.Result.{err_from_is_err_and}
use Rattle.trace_codec.specs.declared.error.TraceError.{TraceError}
use Rattle.trace_codec.proofs.Made.{never_refuses}
use Rattle.trace_codec.proofs.OneRecord.{one_cause_of}
use Rattle.trace_codec.proofs.trace.Trace.new.Goals as goal

pub returns-in_err-check_trace-clause-accepted : goal.returns-in_err-check_trace-clause-accepted
returns-in_err-check_trace-clause-accepted c is = absurd (never_refuses _ _ is
    (rw c.deref.ensures.value at c.in_err-check_trace.ensures.refused))

pub returns-in_err-check_trace-clause-first : goal.returns-in_err-check_trace-clause-first
returns-in_err-check_trace-clause-first c e cause =
    let p = err_from_is_err_and c.from_residual.result c.from_residual.ensures.1 in
    let refused = rw c.deref.ensures.value at c.in_err-check_trace.ensures.refused in
    p.1 ∙ ap (λ (x : TraceError). Err x) (p.2 ∙ one_cause_of _ _ e refused cause)

pub returns-clause-first : goal.returns-clause-first
returns-clause-first c e cause = absurd (never_refuses _ e (rw c.deref.ensures.value at
    c.in_ok-check_trace.ensures.accepted) cause)
