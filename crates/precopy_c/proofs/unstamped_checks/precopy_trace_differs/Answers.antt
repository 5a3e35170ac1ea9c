use Rattle.std.proofs.Common.{◌≡◌, ◌^◌, ℕ, Bool, List, cond, ap, length, subst, arith}
use Rattle.migration_model.specs.Memory.{image_after}
use Rattle.migration_model.specs.Trace.{GuestTrace}
use Rattle.migration_model.proofs.Traces.{one_trace_lem}
use Rattle.precopy_c.proofs.unstamped_checks.precopy_trace_differs.Goals as goal

pub returns-in-Err-clause-only : goal.returns-in-Err-clause-only
returns-in-Err-clause-only c = λ t shown room memory.
    let same : t ≡ c.opened.result = one_trace_lem c.args.trace.now.bytes.now t c.opened.result shown.is_open.spells
    c.opened.ensures.is_open.spells in
    let bytes : List ℕ = c.args.memory.now in
    let answers = c.in-Err.ensures.only
    (subst (λ (t : GuestTrace). bytes ≡ (image_after t c.args.count).bytes) same memory)
    (subst (λ (t : GuestTrace). length c.args.room.now ≡ 2 ^ t.shift) same room) in
    let one : ℕ = 1 in
    let none : ℕ = 0 in
    absurd (omega (arith, ap (λ (b : Bool). cond b one none) answers))
