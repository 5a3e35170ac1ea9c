use Rattle.std.proofs.Common.{length, subst, sym}
use Rattle.std.proofs.lemmas.Result.{err_from_is_err_and}
use Rattle.browser_planner.specs.Agreements.{HasRoomToAgree}
use Rattle.browser_planner.specs.Plans.{room_of}
use Rattle.browser_planner.specs.Predictions.{RefusesAsked}
use Rattle.browser_planner.proofs.agreements.asked_agreement.Goals as goal

pub returns-in_err-trace-clause-refused : goal.returns-in_err-trace-clause-refused
returns-in_err-trace-clause-refused c =
    let p = err_from_is_err_and c.from_residual-in_err-trace.result c.from_residual-in_err-trace.ensures.1 in
    let question = c.args.question.now in
    let room = room_of (length c.args.touches.now) (length c.args.marks.now) (length c.args.list.now)
    (length c.args.rounds.now) in
    rw p.1 (subst (RefusesAsked c.args.bytes.now question (HasRoomToAgree room)) (sym p.2)
    (c.in_ok-terms.ensures.accepted, c.in_err-trace.ensures.refused))
