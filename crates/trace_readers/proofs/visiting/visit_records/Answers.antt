use Rattle.std.proofs.Common.{◌≡◌, inr, length, sym, ◌∙◌, arith}
use Rattle.std.proofs.lemmas.Bool.{eqb-false}
use Rattle.trace_readers.proofs.Visits.{visited_trailing}
use Rattle.trace_readers.proofs.visiting.visit_records.Goals as goal

pub returns-in-Err-clause-refused : goal.returns-in-Err-clause-refused
returns-in-Err-clause-refused g c start text on = c.in-Err.ensures.refused start text
    (c.loop-taken.invariant.visited start text on)

pub returns-then-not-is_empty-clause-refused : goal.returns-then-not-is_empty-clause-refused
returns-then-not-is_empty-clause-refused g c start text on =
    let filled : length c.loop-taken.rest.now ≡ 0 → ⊥ = eqb-false _ _
    (sym c.is_empty.ensures ∙ c.if-not-is_empty.true) in
    inr (visited_trailing _ text c.loop-taken.taken c.loop-taken.rest.now (omega (arith, c.loop-taken-test.false))
    (omega (arith, filled)) (c.loop-taken.invariant.visited start text on))
