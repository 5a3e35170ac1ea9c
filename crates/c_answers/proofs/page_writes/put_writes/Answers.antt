use Rattle.std.proofs.Common.{arith, ap, refl, sym, ◌∙◌}
use Rattle.migration_model.specs.Trace.{GuestWrite}
use Rattle.open_traces.proofs.PageWalks.{IsNext-from, version_first, version_own}
use Rattle.c_answers.specs.Places.{row_at}
use Rattle.c_answers.proofs.PageRows.{Fills-end, Fills-next, Fills-start, Reaches-next, Reaches-none}
use Rattle.c_answers.proofs.page_writes.put_writes.Goals as goal

pub behind-next-requires-clause-is : goal.behind-next-requires-clause-is
behind-next-requires-clause-is c = version_first c.args.trace.now c.args.page 0 refl

pub loop-next-init : goal.loop-next-init
loop-next-init c = record {
  reaches = Reaches-none c.args.trace.now c.args.page 0 c.behind-next.result 0 refl c.behind-next.ensures refl;
  fills = Fills-start c.args.trace.now c.args.page 0 0 c.args.rows.now refl refl c.requires.room;
}

pub loop-next-smaller : goal.loop-next-smaller
loop-next-smaller c =
    let at = c.loop-next in
    let next = IsNext-from c.args.trace.now c.args.page at.last at.next at.invariant.reaches.next_is
    c.loop-next-test.true at.invariant.reaches.within in
    omega (arith, next.later, next.within)

pub overflow_cast-last : goal.overflow_cast-last
overflow_cast-last c =
    let at = c.loop-next in
    let next = IsNext-from c.args.trace.now c.args.page at.last at.next at.invariant.reaches.next_is
    c.loop-next-test.true at.invariant.reaches.within in
    omega (arith, next.within, c.shape.ensures.writes, c.shape.result.writes_high)

pub write-requires : goal.write-requires
write-requires c =
    let at = c.loop-next in
    let next = IsNext-from c.args.trace.now c.args.page at.last at.next at.invariant.reaches.next_is
    c.loop-next-test.true at.invariant.reaches.within in
    omega (arith, next.later, next.within)

pub bounds-rows-count : goal.bounds-rows-count
bounds-rows-count c =
    let at = c.loop-next in
    (Fills-next c.args.trace.now c.args.page at.last at.next at.count c.args.rows.now at.rows c.row.result
    at.invariant.fills at.invariant.reaches.next_is c.loop-next-test.true
    (c.row.ensures ∙ ap (λ (w : GuestWrite). row_at (at.next, w)) c.write.ensures)).0

pub behind-next-requires-in-loop-next-clause-is : goal.behind-next-requires-in-loop-next-clause-is
behind-next-requires-in-loop-next-clause-is c =
    let at = c.loop-next in
    let next = IsNext-from c.args.trace.now c.args.page at.last at.next at.invariant.reaches.next_is
    c.loop-next-test.true at.invariant.reaches.within in
    version_own c.args.trace.now c.args.page at.next (omega (arith, next.later)) next.within next.own

pub loop-next-preserved : goal.loop-next-preserved
loop-next-preserved c =
    let at = c.loop-next in
    record {
      reaches = Reaches-next c.args.trace.now c.args.page at.last at.next c.behind-next-in-loop-next.result at.count
          at.invariant.reaches c.loop-next-test.true c.behind-next-in-loop-next.ensures;
      fills = (Fills-next c.args.trace.now c.args.page at.last at.next at.count c.args.rows.now at.rows c.row.result
          at.invariant.fills at.invariant.reaches.next_is c.loop-next-test.true
          (c.row.ensures ∙ ap (λ (w : GuestWrite). row_at (at.next, w)) c.write.ensures)).1;
    }

pub returns : goal.returns
returns c =
    let at = c.loop-next in
    Fills-end c.args.trace.now c.args.page at.last at.count c.args.rows.now at.rows at.invariant.fills
    (sym c.loop-next-test.false ∙ at.invariant.reaches.next_is)
