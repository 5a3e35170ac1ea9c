use Rattle.std.proofs.Common.{ap, drop, sym, subst, ◌∙◌, arith}
use Rattle.std.proofs.lemmas.Result.{err_from_is_err_and, IfOk-weaker}
use Rattle.trace_readers.specs.Pieces.{CameAs}
use Rattle.trace_readers.specs.Visits.{IsVisited}
use Rattle.trace_readers.proofs.Visits.{visiting_all, visiting_more}
use Rattle.trace_readers.proofs.visiting.visit_piece.Goals as goal

pub returns-in-Ok-clause-visiting : goal.returns-in-Ok-clause-visiting
returns-in-Ok-clause-visiting g c =
    let rest = c.rest.ensures in
    let records = c.visit_records-count.ensures in
    let left = ap (drop c.visit_records-count.result.0) rest ∙ sym c.take.ensures.rest in
    let begun = c.args.taken.now in
    let end = c.visit_records-count.new.taken in
    IfOk-weaker c.read_more.result _ _
    (λ more read is start old on.
    visiting_more _ _ old _ _ begun end c.args.pieces.now c.take.new.self _ more c.take.ensures.count
    (λ text on. subst (IsVisited (g.V.WriteVisitor.makes start c.visit_records-count.new.visitor) text end) left
    (records.visited start text (subst (IsVisited (g.V.WriteVisitor.makes start c.args.visitor.now) text begun)
    (sym rest) on)))
    read on)
    c.read_more.ensures.read

pub returns-in-Ok-clause-all : goal.returns-in-Ok-clause-all
returns-in-Ok-clause-all g c =
    let rest = c.rest.ensures in
    let records = c.visit_records-count.ensures in
    let left = ap (drop c.visit_records-count.result.0) rest ∙ sym c.take.ensures.rest in
    let all = rw c.in-Ok.is at records.all in
    let none = rw c.in-Ok.is at records.none in
    let begun = c.args.taken.now in
    let end = c.visit_records-count.new.taken in
    IfOk-weaker c.read_more.result _ _
    (λ more read ended start old on.
    visiting_all _ _ old _ _ begun end c.args.pieces.now c.take.new.self _ more ended c.requires.short
    c.take.ensures.count (sym left ∙ none)
    (λ text on. subst (IsVisited (g.V.WriteVisitor.makes start c.visit_records-count.new.visitor) text end) left
    (records.visited start text (subst (IsVisited (g.V.WriteVisitor.makes start c.args.visitor.now) text begun)
    (sym rest) on)))
    (λ text on. all start text (subst (IsVisited (g.V.WriteVisitor.makes start c.args.visitor.now) text begun)
    (sym rest) on)) read on)
    c.read_more.ensures.read

pub returns-in_err-read_after-in-Err-clause-refused : goal.returns-in_err-read_after-in-Err-clause-refused
returns-in_err-read_after-in-Err-clause-refused g c =
    let rest = c.rest.ensures in
    let records = c.visit_records-count.ensures in
    let refused = rw c.in-Err.is at records.refused in
    let p = err_from_is_err_and c.from_residual.result c.from_residual.ensures.1 in
    rw (p.1, p.2)
    (λ start old on.
    let came : CameAs old (g.S.Source.remaining c.args.source.now) c.take.new.self.count on.text =
    record { came = on.came.came; count_is = c.take.ensures.count ∙ on.came.count_is } in
    let first = on.visited (omega (arith, c.requires.short, on.came.count_is)) in
    c.in_err-read_after-in-Err.ensures.refused old on.text came
    (refused start on.text (subst (IsVisited (g.V.WriteVisitor.makes start c.args.visitor.now) on.text
    c.args.taken.now) (sym rest) first)))

pub returns-in_ok-read_after-in-Err-clause-visiting : goal.returns-in_ok-read_after-in-Err-clause-visiting
returns-in_ok-read_after-in-Err-clause-visiting g c is start old on =
    let rest = c.rest.ensures in
    let records = c.visit_records-count.ensures in
    let left = ap (drop c.visit_records-count.result.0) rest ∙ sym c.take.ensures.rest in
    let begun = c.args.taken.now in
    let end = c.visit_records-count.new.taken in
    visiting_more _ _ old _ _ begun end c.args.pieces.now c.take.new.self _ _ c.take.ensures.count
    (λ text on. subst (IsVisited (g.V.WriteVisitor.makes start c.visit_records-count.new.visitor) text end) left
    (records.visited start text (subst (IsVisited (g.V.WriteVisitor.makes start c.args.visitor.now) text begun)
    (sym rest) on)))
    c.in_ok-read_after-in-Err.ensures.read on
