use Rattle.std.proofs.Common.{◌≡◌, ℕ, Bool, cond, ap, sym, subst, arith}
use Rattle.migration_model.specs.Trace.{GuestTrace}
use Rattle.migration_model.proofs.Traces.{one_trace_lem}
use Rattle.stream_check.specs.Checked.{TakesAll}
use Rattle.open_checks.specs.Kept.{known_by}
use Rattle.c_answers.specs.OpenPieces.{FitsGuest, KeepsPages, lent_with}
use Rattle.precopy_c.proofs.open_trace_checks.precopy_trace_check_piece.Goals as goal

pub returns-in-Ok-clause-kept : goal.returns-in-Ok-clause-kept
returns-in-Ok-clause-kept c = λ t shown.
    let same : t ≡ c.opened.result = one_trace_lem c.args.trace.now.bytes.now t c.opened.result shown.is_open.spells
    c.opened.ensures.is_open.spells in
    subst (λ (t : GuestTrace). KeepsPages t c.take_open_piece.new.greatest c.take_open_piece.new.memory) (sym same)
    c.take_open_piece.ensures.kept

pub returns-in-Err-clause-kept : goal.returns-in-Err-clause-kept
returns-in-Err-clause-kept c = λ t shown.
    let same : t ≡ c.opened.result = one_trace_lem c.args.trace.now.bytes.now t c.opened.result shown.is_open.spells
    c.opened.ensures.is_open.spells in
    subst (λ (t : GuestTrace). KeepsPages t c.take_open_piece.new.greatest c.take_open_piece.new.memory) (sym same)
    c.take_open_piece.ensures.kept

pub returns-in-Err-clause-only : goal.returns-in-Err-clause-only
returns-in-Err-clause-only c = λ t after all shown fits takes.
    let same : t ≡ c.opened.result = one_trace_lem c.args.trace.now.bytes.now t c.opened.result shown.is_open.spells
    c.opened.ensures.is_open.spells in
    let last = c.args.last.now in
    let greatest = c.args.greatest.now in
    let answers = c.in-Err.ensures.only after all
    (subst (λ (t : GuestTrace). FitsGuest t (lent_with last greatest c.args.memory.now)) same fits)
    (subst (λ (t : GuestTrace). TakesAll t (known_by t c.args.progress.now.stop last greatest) after c.args.piece.now
    all) same takes) in
    let one : ℕ = 1 in
    let none : ℕ = 0 in
    absurd (omega (arith, ap (λ (b : Bool). cond b one none) answers))
