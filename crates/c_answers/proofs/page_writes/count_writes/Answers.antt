use Rattle.std.proofs.Common.{ap, length, List, refl, sym, ◌∙◌, arith}
use Rattle.open_traces.proofs.PageWalks.{IsNext-from, version_first, version_own}
use Rattle.c_answers.specs.declared.page_writes.PageWrite.{PageWrite}
use Rattle.c_answers.proofs.PageRows.{Reaches-next, Reaches-none, rows_end}
use Rattle.c_answers.proofs.page_writes.count_writes.Goals as goal

pub behind-next-requires-clause-is : goal.behind-next-requires-clause-is
behind-next-requires-clause-is c = version_first c.args.trace.now c.args.page 0 refl

pub loop-next-init : goal.loop-next-init
loop-next-init c = Reaches-none c.args.trace.now c.args.page 0 c.behind-next.result 0 refl c.behind-next.ensures refl

pub loop-next-smaller : goal.loop-next-smaller
loop-next-smaller c =
    let at = c.loop-next in
    let next = IsNext-from c.args.trace.now c.args.page at.last at.next at.invariant.next_is c.loop-next-test.true
    at.invariant.within in
    omega (arith, next.later, next.within)

pub behind-next-requires-in-loop-next-clause-is : goal.behind-next-requires-in-loop-next-clause-is
behind-next-requires-in-loop-next-clause-is c =
    let at = c.loop-next in
    let next = IsNext-from c.args.trace.now c.args.page at.last at.next at.invariant.next_is c.loop-next-test.true
    at.invariant.within in
    version_own c.args.trace.now c.args.page at.next (omega (arith, next.later)) next.within next.own

pub loop-next-preserved : goal.loop-next-preserved
loop-next-preserved c =
    let at = c.loop-next in
    Reaches-next c.args.trace.now c.args.page at.last at.next c.behind-next-in-loop-next.result at.count at.invariant
    c.loop-next-test.true c.behind-next-in-loop-next.ensures

pub returns : goal.returns
returns c =
    let at = c.loop-next in
    let none = ap (λ (l : List PageWrite). length l) (rows_end c.args.trace.now c.args.page at.last
    (sym c.loop-next-test.false ∙ at.invariant.next_is)) in
    omega (arith, none, at.invariant.counted)
