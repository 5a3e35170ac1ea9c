use Rattle.std.proofs.Common.{◌^◌, ◌≤◌, arith}
use Rattle.std.proofs.lemmas.Result.{err_from_is_err_and}
use Rattle.std.proofs.Math.Nat.{pow-le-pow_right}
use Rattle.migration_model.specs.Trace.{write_with}
use Rattle.trace_writer.proofs.Appended.{more_is_trace, refuse_record, refuse_sizes}
use Rattle.trace_writer.proofs.Refused.{first_other, first_some}
use Rattle.trace_writer.proofs.refusals.test_write.Goals as goal

pub returns-in_err-test_sizes-clause-refused : goal.returns-in_err-test_sizes-clause-refused
returns-in_err-test_sizes-clause-refused c =
    let p = err_from_is_err_and c.from_residual.result c.from_residual.ensures.1 in
    rw (p.1, p.2) (λ t tells is. refuse_sizes c.args.recording.now t
    (write_with c.args.tick c.args.page c.args.offset c.args.bytes.now) c.args.end _
    c.in_err-test_sizes.ensures.refused tells is)

pub returns-in_err-test_record-clause-refused : goal.returns-in_err-test_record-clause-refused
returns-in_err-test_record-clause-refused c =
    let p = err_from_is_err_and c.from_residual-in_err-test_record.result c.from_residual-in_err-test_record.ensures.1 in
    rw (p.1, p.2) (λ t tells is. refuse_record c.args.recording.now t
    (write_with c.args.tick c.args.page c.args.offset c.args.bytes.now) c.args.end _
    c.in_ok-test_sizes.ensures.accepted c.in_err-test_record.ensures.refused tells is)

pub returns-clause-accepted : goal.returns-clause-accepted
returns-clause-accepted c t tells is = more_is_trace c.args.recording.now t
    (write_with c.args.tick c.args.page c.args.offset c.args.bytes.now) c.args.end c.in_ok-test_sizes.ensures.short
    c.in_ok-test_sizes.ensures.few c.in_ok-test_record.ensures.accepted tells is

pub returns-clause-within : goal.returns-clause-within
returns-clause-within c =
    let small : 2 ^ c.args.recording.now.shift ≤ 2 ^ 12 =
    pow-le-pow_right (omega arith) c.in_ok-test_sizes.ensures.size.shift_high in
    omega (arith, small, c.in_ok-test_record.ensures.within)

pub returns-in_err-test_sizes-clause-first : goal.returns-in_err-test_sizes-clause-first
returns-in_err-test_sizes-clause-first c =
    let p = err_from_is_err_and c.from_residual.result c.from_residual.ensures.1 in
    rw (p.1, p.2) (first_some _ _ _ c.in_err-test_sizes.ensures.refused)

pub returns-in_err-test_record-clause-first : goal.returns-in_err-test_record-clause-first
returns-in_err-test_record-clause-first c =
    let p = err_from_is_err_and c.from_residual-in_err-test_record.result c.from_residual-in_err-test_record.ensures.1
    in
    rw (p.1, p.2) (first_other _ _ _ c.in_ok-test_sizes.ensures.accepted c.in_err-test_record.ensures.refused)

pub returns-clause-none : goal.returns-clause-none
returns-clause-none c = first_other _ _ _ c.in_ok-test_sizes.ensures.accepted c.in_ok-test_record.ensures.accepted
