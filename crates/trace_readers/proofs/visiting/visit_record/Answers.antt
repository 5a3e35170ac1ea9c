use Rattle.std.proofs.Common.{inr, refl, arith}
use Rattle.std.proofs.lemmas.Result.{err_from_is_err_and}
use Rattle.trace_readers.proofs.Visits.{behind_is, visited_more, visited_refused}
use Rattle.trace_readers.proofs.Longer.{record_cause}
use Rattle.trace_codec.proofs.Steps.{IsRight-from_none}
use Rattle.trace_readers.proofs.visiting.visit_record.Goals as goal

pub returns-in_err-write-clause-refused : goal.returns-in_err-write-clause-refused
returns-in_err-write-clause-refused g c =
    let p = err_from_is_err_and c.from_residual.result c.from_residual.ensures.1 in
    rw (p.1, p.2) (λ start text on. inr (visited_refused _ text c.args.taken.now c.args.bytes.now _ c.requires.left
    c.in_err-write.ensures.refused on))

pub returns-in_err-write-clause-room : goal.returns-in_err-write-clause-room
returns-in_err-write-clause-room g c =
    let p = err_from_is_err_and c.from_residual.result c.from_residual.ensures.1 in
    rw (p.1, p.2) (record_cause _ _ _ _ _ c.args.bytes.now _ (λ i. omega (arith, c.type_inv.bytes i))
    c.in_err-write.ensures.refused).room

pub visit-requires : goal.visit-requires
visit-requires g c =
    let right = IsRight-from_none _ _ _ _ _ c.args.bytes.now c.in_ok-write.ensures.accepted in
    c.requires.can _ (rw c.in_ok-write.ensures.write right.fits)

pub returns-clause-visited : goal.returns-clause-visited
returns-clause-visited g c start text on =
    visited_more _ _ text c.args.taken.now _ c.args.bytes.now _ _ c.requires.left refl refl c.in_ok-write.ensures.tick
    c.in_ok-write.ensures.rest c.in_ok-write.ensures.write c.in_ok-write.ensures.accepted
    (c.in_ok-visit.ensures.made start) on

pub returns-clause-within : goal.returns-clause-within
returns-clause-within g c =
    let right = IsRight-from_none _ _ _ _ _ c.args.bytes.now c.in_ok-write.ensures.accepted in
    (behind_is c.args.bytes.now c.in_ok-write.rest.now right.whole c.in_ok-write.ensures.rest).0

pub returns-clause-rest : goal.returns-clause-rest
returns-clause-rest g c =
    let right = IsRight-from_none _ _ _ _ _ c.args.bytes.now c.in_ok-write.ensures.accepted in
    (behind_is c.args.bytes.now c.in_ok-write.rest.now right.whole c.in_ok-write.ensures.rest).1
