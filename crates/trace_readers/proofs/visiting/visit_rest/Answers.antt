use Rattle.std.proofs.Common.{subst, ◌∙◌, arith}
use Rattle.std.proofs.lemmas.Result.{err_from_is_err_and}
use Rattle.trace_readers.specs.Visits.{IsAllVisited}
use Rattle.trace_readers.proofs.Visits.{visiting_long}
use Rattle.trace_readers.proofs.visiting.visit_rest.Goals as goal

pub returns-then-not-branch-clause-all : goal.returns-then-not-branch-clause-all
returns-then-not-branch-clause-all g c start old on =
    let all = c.in_ok-visit_piece.ensures.all c.if-not-branch.true start old
    (c.loop-taken.invariant.visiting start old on) in
    subst (IsAllVisited (g.V.WriteVisitor.makes start c.visit_piece.new.visitor) old)
    (c.in_ok-visit_piece.ensures.header ∙ c.loop-taken.invariant.header) all

pub returns-in_err-visit_piece-clause-refused : goal.returns-in_err-visit_piece-clause-refused
returns-in_err-visit_piece-clause-refused g c =
    let p = err_from_is_err_and c.from_residual.result c.from_residual.ensures.1 in
    rw (p.1, p.2) (λ start old on. c.in_err-visit_piece.ensures.refused start old
    (c.loop-taken.invariant.visiting start old on))

pub returns-clause-refused : goal.returns-clause-refused
returns-clause-refused g c start old on =
    visiting_long _ _ _ _ _ (omega (arith, c.loop-taken-test.false, c.count.ensures))
    (c.loop-taken.invariant.visiting start old on)
