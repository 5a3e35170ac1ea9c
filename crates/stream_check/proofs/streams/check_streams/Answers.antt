use Rattle.std.proofs.Common.{◌≡◌, ◌<◌, ◌≤◌, length, ap, sym, subst, ◌∙◌, arith}
use Rattle.std.proofs.lemmas.Result.{err_from_is_err_and}
use Rattle.migration_model.specs.Frames.{GuestShape}
use Rattle.migration_model.specs.Final.{shape_of_trace}
use Rattle.page_message.specs.Shapes.{shape_of}
use Rattle.stream_check.specs.Checked.{unchecked}
use Rattle.stream_check.specs.Streams.{IsFirstThing, cut_by}
use Rattle.stream_check.specs.declared.error.StreamsError.TheVariants.{Frame}
use Rattle.stream_check.proofs.Only.{only_memory}
use Rattle.stream_check.proofs.Streamed.{HasTaken-more, HasTaken-none, all_right, wrong_in, wrong_at_end}
use Rattle.stream_check.proofs.streams.check_streams.Goals as goal

pub loop-stream-init : goal.loop-stream-init
loop-stream-init g c =
    let trace = g.W.WriteLog.trace c.args.trace.now in
    let shape : shape_of c.shape.result ≡ shape_of_trace trace = λ i. record {
      shift = c.shape.ensures.shift i;
      pages = c.shape.ensures.pages i;
      writes = c.shape.ensures.writes i;
    } in
    HasTaken-none trace c.args.stop c.args.bytes.now c.args.sizes.now c.in_ok-checker.checker
    (c.in_ok-checker.ensures ∙ ap (λ (s : GuestShape). unchecked s c.args.stop) shape) c.requires.sizes

pub loop-stream-preserved : goal.loop-stream-preserved
loop-stream-preserved g c =
    let low : c.loop-stream.stream < length c.args.sizes.now = omega (arith, c.loop-stream-test.true) in
    HasTaken-more (g.W.WriteLog.trace c.args.trace.now) c.args.stop c.args.bytes.now c.args.sizes.now
    c.loop-stream.stream c.loop-stream.rest.now c.split_at.result.0.now c.split_at.result.1.now c.loop-stream.checker
    c.take_last.new.self c.loop-stream.invariant low c.split_at.ensures.front c.split_at.ensures.back
    c.in_default.ensures.taken

pub returns-in-Err-clause-wrong : goal.returns-in-Err-clause-wrong
returns-in-Err-clause-wrong g c =
    let low : c.loop-stream.stream < length c.args.sizes.now = omega (arith, c.loop-stream-test.true) in
    wrong_in (g.W.WriteLog.trace c.args.trace.now) c.args.stop c.args.bytes.now c.args.sizes.now c.loop-stream.stream
    c.loop-stream.rest.now c.split_at.result.0.now c.loop-stream.checker c.take_last.new.self c.in-Err.found
    c.loop-stream.invariant low c.split_at.ensures.front c.in-Err.ensures.wrong

pub returns-in-Err-clause-only : goal.returns-in-Err-clause-only
returns-in-Err-clause-only g c = λ all.
    let trace = g.W.WriteLog.trace c.args.trace.now in
    let low : c.loop-stream.stream < length c.args.sizes.now = omega (arith, c.loop-stream-test.true) in
    only_memory trace c.args.stop (cut_by c.args.sizes.now c.args.bytes.now) (Frame c.loop-stream.stream c.in-Err.found)
    c.shape.ensures.is_trace all
    (wrong_in trace c.args.stop c.args.bytes.now c.args.sizes.now c.loop-stream.stream c.loop-stream.rest.now
    c.split_at.result.0.now c.loop-stream.checker c.take_last.new.self c.in-Err.found c.loop-stream.invariant low
    c.split_at.ensures.front c.in-Err.ensures.wrong)

pub returns-in_err-finish-clause-only : goal.returns-in_err-finish-clause-only
returns-in_err-finish-clause-only g c = λ all.
    let trace = g.W.WriteLog.trace c.args.trace.now in
    let texts = cut_by c.args.sizes.now c.args.bytes.now in
    let last : length c.args.sizes.now ≤ c.loop-stream.stream = omega (arith, c.loop-stream-test.false) in
    let p = err_from_is_err_and c.from_residual-in_err-finish.result c.from_residual-in_err-finish.ensures.1 in
    rw p.1 (only_memory trace c.args.stop texts p.0 c.shape.ensures.is_trace all
    (subst (IsFirstThing trace c.args.stop texts) (sym p.2)
    (wrong_at_end trace c.args.stop c.args.bytes.now c.args.sizes.now c.loop-stream.stream c.loop-stream.rest.now
    c.loop-stream.checker c.in_err-finish.field-0.0 c.loop-stream.invariant last c.in_err-finish.ensures.behind)))

pub returns-clause-right : goal.returns-clause-right
returns-clause-right g c =
    let trace = g.W.WriteLog.trace c.args.trace.now in
    let last : length c.args.sizes.now ≤ c.loop-stream.stream = omega (arith, c.loop-stream-test.false) in
    all_right trace c.args.stop c.args.bytes.now c.args.sizes.now c.loop-stream.stream c.loop-stream.rest.now
    c.loop-stream.checker c.loop-stream.invariant last c.in_ok-finish.ensures.current
