use Rattle.std.proofs.Common.{refl}
use Rattle.std.proofs.lemmas.Result.{err_from_is_err_and}
use Rattle.trace_readers.proofs.Visits.{MakesTouches, all_fit, all_found, visiting_header}
use Rattle.trace_readers.proofs.touch_log.log_of_source.Goals as goal

pub returns-in_err-visit_rest-clause-refused : goal.returns-in_err-visit_rest-clause-refused
returns-in_err-visit_rest-clause-refused g c =
    let none = c.new-2.result.items in
    let begun = visiting_header (MakesTouches none none) _ _ c.none.result _ c.none.ensures.count c.none.ensures.last
    (rw c.none.ensures.header c.in_ok-header.ensures.header) (rw c.new-2.ensures.items refl) in
    let p = err_from_is_err_and c.from_residual-in_err-visit_rest.result c.from_residual-in_err-visit_rest.ensures.1 in
    rw (p.1, p.2) (c.in_err-visit_rest.ensures.refused (record { all = c.new-2.result })
    (g.S.Source.remaining c.args.source.now) begun)

pub invariant_of-result : goal.invariant_of-result
invariant_of-result g c =
    let none = c.new-2.result.items in
    let begun = visiting_header (MakesTouches none none) _ _ c.none.result _ c.none.ensures.count c.none.ensures.last
    (rw c.none.ensures.header c.in_ok-header.ensures.header) (rw c.new-2.ensures.items refl) in
    let all = c.in_ok-visit_rest.ensures.all (record { all = c.new-2.result }) (g.S.Source.remaining c.args.source.now)
    begun in
    all_fit _ _ none _ c.new-2.ensures.items (rw c.none.ensures.header at all)

pub returns-clause-found : goal.returns-clause-found
returns-clause-found g c =
    let none = c.new-2.result.items in
    let begun = visiting_header (MakesTouches none none) _ _ c.none.result _ c.none.ensures.count c.none.ensures.last
    (rw c.none.ensures.header c.in_ok-header.ensures.header) (rw c.new-2.ensures.items refl) in
    let all = c.in_ok-visit_rest.ensures.all (record { all = c.new-2.result }) (g.S.Source.remaining c.args.source.now)
    begun in
    all_found _ _ none _ c.new-2.ensures.items (rw c.none.ensures.header at all)
