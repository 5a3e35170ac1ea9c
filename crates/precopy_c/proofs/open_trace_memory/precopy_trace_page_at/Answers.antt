use Rattle.std.proofs.Common.{◌^◌, ◌≤◌, ℕ, Bool, cond, ap, length, subst, arith}
use Rattle.migration_model.specs.Trace.{GuestTrace}
use Rattle.migration_model.proofs.Traces.{one_trace_lem}
use Rattle.c_answers.specs.Places.{IsVersion}
use Rattle.precopy_c.proofs.open_trace_memory.precopy_trace_page_at.Goals as goal

pub returns-in-Err-clause-only : goal.returns-in-Err-clause-only
returns-in-Err-clause-only c = λ t shown version room.
    let same = one_trace_lem c.args.trace.now.bytes.now t c.opened.result shown.is_open.spells
    c.opened.ensures.is_open.spells in
    let answers = c.in-Err.ensures.only
    (subst (λ (t : GuestTrace). IsVersion t c.args.page c.args.stamp) same version)
    (subst (λ (t : GuestTrace). 2 ^ t.shift ≤ length c.args.content.now) same room) in
    let one : ℕ = 1 in
    let none : ℕ = 0 in
    absurd (omega (arith, ap (λ (b : Bool). cond b one none) answers))
