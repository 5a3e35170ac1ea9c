use Rattle.std.proofs.Common.{length, refl, arith}
use Rattle.std.proofs.lemmas.Result.{err_from_is_err_and}
use Rattle.trace_writer.proofs.Appended.{begun_is_trace, begun_refused, length-no_writes, records_begun}
use Rattle.trace_writer.proofs.Refused.{in_none, in_short, in_some}
use Rattle.trace_writer.proofs.recording.Recording.begin.Goals as goal

pub returns-in_err-test_sizes-clause-refused : goal.returns-in_err-test_sizes-clause-refused
returns-in_err-test_sizes-clause-refused c =
    let p = err_from_is_err_and c.from_residual.result c.from_residual.ensures.1 in
    rw (p.1, p.2) (begun_refused c.args.shift c.args.pages _ c.in_err-test_sizes.ensures.refused)

pub returns-in_err-test_sizes-clause-first : goal.returns-in_err-test_sizes-clause-first
returns-in_err-test_sizes-clause-first c =
    let p = err_from_is_err_and c.from_residual.result c.from_residual.ensures.1 in
    rw (p.1, p.2) (in_some _ _ (length c.args.trace.now) 16 c.in_err-test_sizes.ensures.refused)

pub returns-then-trace-lt16-clause-refused : goal.returns-then-trace-lt16-clause-refused
returns-then-trace-lt16-clause-refused c = (
  begun_is_trace c.args.shift c.args.pages c.in_ok-test_sizes.ensures.size,
  omega (arith, length-no_writes c.args.shift c.args.pages, c.if-trace-lt16.true),
)

pub returns-then-trace-lt16-clause-accepted : goal.returns-then-trace-lt16-clause-accepted
returns-then-trace-lt16-clause-accepted c is fits =
    absurd (omega (arith, length-no_writes c.args.shift c.args.pages, fits, c.if-trace-lt16.true))

pub returns-then-trace-lt16-clause-first : goal.returns-then-trace-lt16-clause-first
returns-then-trace-lt16-clause-first c = in_short _ (length c.args.trace.now) 16 c.in_ok-test_sizes.ensures.accepted
    (omega (arith, c.if-trace-lt16.true))

pub returns-clause-begun : goal.returns-clause-begun
returns-clause-begun c = rw c.put_header.ensures (records_begun c.args.trace.now _ c.args.shift c.args.pages refl refl
    refl refl refl c.in_ok-test_sizes.ensures.size (omega (arith, c.if-trace-lt16.false)))

pub returns-clause-none : goal.returns-clause-none
returns-clause-none c = in_none _ (length c.args.trace.now) 16 c.in_ok-test_sizes.ensures.accepted
    (omega (arith, c.if-trace-lt16.false))
