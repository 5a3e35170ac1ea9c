use Rattle.std.proofs.Common.{◌≢◌, arith}
use Rattle.open_traces.proofs.PageWalks.{IsNext-from, version_within}
use Rattle.open_checks.proofs.Fitting.{IsSought-next, none_left}
use Rattle.open_checks.proofs.unstamped.bring_to.Goals as goal

pub returns-then-next-eq0-clause-none : goal.returns-then-next-eq0-clause-none
returns-then-next-eq0-clause-none c =
    let at = c.loop-version in
    let bytes = c.args.bytes.now in
    let apart : bytes ≢ at.content = λ same. absurd (cc (c.if-are_same.false, c.are_same.ensures.1 same)) in
    none_left c.args.trace.now c.args.stop c.args.page c.args.from bytes at.content at.version c.behind-next.result
    at.invariant apart c.behind-next.ensures c.if-next-eq0.true

pub loop-version-smaller : goal.loop-version-smaller
loop-version-smaller c =
    let at = c.loop-version in
    let trace = c.args.trace.now in
    let next = IsNext-from trace c.args.page at.version c.behind-next.result c.behind-next.ensures c.if-next-eq0.false
    (version_within trace c.args.page at.version at.invariant.own) in
    omega (arith, next.later, next.within)

pub loop-version-preserved : goal.loop-version-preserved
loop-version-preserved c =
    let at = c.loop-version in
    let bytes = c.args.bytes.now in
    let apart : bytes ≢ at.content = λ same. absurd (cc (c.if-are_same.false, c.are_same.ensures.1 same)) in
    IsSought-next c.args.trace.now c.args.stop c.args.page c.args.from bytes at.content c.turn_page.new.content
    at.version c.behind-next.result at.invariant apart c.behind-next.ensures c.if-next-eq0.false c.turn_page.ensures
