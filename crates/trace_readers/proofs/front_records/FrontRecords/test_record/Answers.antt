use Rattle.std.proofs.Common.{◌≡◌, inr, length, refl, arith}
use Rattle.std.proofs.lemmas.Result.{err_from_is_err_and}
use Rattle.trace_readers.proofs.Fronts.{behind_within, tested_more, tested_refused}
use Rattle.trace_readers.proofs.front_records.FrontRecords.test_record.Goals as goal

pub returns-in_err-write-clause-refused : goal.returns-in_err-write-clause-refused
returns-in_err-write-clause-refused c =
    let front = c.args.self.now in
    let here : c.len-index.result ≡ length front.positions.items =
    omega (arith, c.len-index.ensures, front.positions.ok.0) in
    let p = err_from_is_err_and c.from_residual.result c.from_residual.ensures.1 in
    rw (p.1, p.2) (inr (tested_refused c.args.bytes.now front c.len-index.result _ _ here
    (omega (arith, here, c.requires.left)) c.split_at.ensures.back c.in_err-write.ensures.refused c.requires.tested))

pub overflow_sub-self : goal.overflow_sub-self
overflow_sub-self c =
    behind_within _ _ _ _ c.len-index.result c.args.bytes.now _ c.in_ok-write.behind.now c.args.self.now.end
    c.requires.tested.within c.split_at.ensures.back c.in_ok-write.ensures.rest c.in_ok-write.ensures.accepted

pub returns-clause-tested : goal.returns-clause-tested
returns-clause-tested c =
    let front = c.args.self.now in
    let here : c.len-index.result ≡ length front.positions.items =
    omega (arith, c.len-index.ensures, front.positions.ok.0) in
    tested_more c.args.bytes.now front _ c.len-index.result _ c.in_ok-write.behind.now here
    (omega (arith, here, c.requires.left)) c.split_at.ensures.back
    c.in_ok-write.ensures.rest refl c.in_ok-push.ensures.items c.in_ok-write.ensures.tick refl
    c.in_ok-write.ensures.accepted c.requires.tested
