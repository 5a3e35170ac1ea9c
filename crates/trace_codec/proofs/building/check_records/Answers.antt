use Rattle.std.proofs.Common.{◌<◌, length, ap, arith}
use Rattle.std.proofs.lemmas.Result.{err_from_is_err_and}
use Rattle.trace_codec.proofs.Made.{refused_there, Tested-more}
use Rattle.trace_codec.proofs.building.check_records.Goals as goal

pub returns-in_err-check_record-clause-refused : goal.returns-in_err-check_record-clause-refused
returns-in_err-check_record-clause-refused c =
    let p = err_from_is_err_and c.from_residual.result c.from_residual.ensures.1 in
    let low : c.loop-index.index < length c.args.writes.now = omega arith in
    rw (p.1, p.2) (refused_there c.args.header.version c.args.header.shape.shift c.args.header.shape.pages
    c.loop-index.index c.args.writes.now c.loop-index.last c.index-writes-index.result _ low
    c.index-writes-index.is c.loop-index.invariant c.in_err-check_record.ensures.refused)

pub loop-index-preserved : goal.loop-index-preserved
loop-index-preserved c =
    let low : c.loop-index.index < length c.args.writes.now = omega arith in
    Tested-more c.args.header.version c.args.header.shape.shift c.args.header.shape.pages c.loop-index.index
    c.args.writes.now c.loop-index.last c.write.inside.tick c.index-writes-index.result low
    c.index-writes-index.is (ap (λ w. w.tick) c.write.view_is) c.loop-index.invariant
    c.in_ok-check_record.ensures.accepted
