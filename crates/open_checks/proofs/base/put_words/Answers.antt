use Rattle.std.proofs.Common.{◌<◌, arith}
use Rattle.open_checks.proofs.BaseWords.{AreMadeTo-all, AreMadeTo-none, version_few}
use Rattle.open_checks.proofs.base.put_words.Goals as goal

pub loop-page-init : goal.loop-page-init
loop-page-init c =
    AreMadeTo-none c.args.trace.now c.args.count c.put_versions.new.versions c.put_versions.ensures

pub overflow_add-greatest : goal.overflow_add-greatest
overflow_add-greatest c =
    let at = c.loop-page in
    let trace = c.args.trace.now in
    let inside : at.page < trace.pages = omega (arith, c.loop-page-test.true, at.auto.page-end, at.invariant.len) in
    let left = at.invariant.left at.page (omega arith) inside in
    let few = version_few trace at.page c.args.count in
    omega (arith, left, few, c.shape.ensures.writes, c.shape.result.writes_high)

pub returns : goal.returns
returns c =
    let at = c.loop-page in
    let trace = c.args.trace.now in
    AreMadeTo-all trace c.args.count at.page at.greatest at.invariant
    (omega (arith, c.loop-page-test.false, at.auto.page-end, at.invariant.len))
