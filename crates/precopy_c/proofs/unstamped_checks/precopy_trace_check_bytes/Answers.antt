use Rattle.std.proofs.Common.{◌≡◌, ℕ, Bool, List, cond, ap, subst, sym, arith}
use Rattle.migration_model.specs.Trace.{GuestTrace}
use Rattle.migration_model.proofs.Traces.{one_trace_lem}
use Rattle.open_checks.specs.Kept.{kept_version}
use Rattle.open_checks.specs.Unstamped.{IsFittingVersion}
use Rattle.c_answers.specs.OpenPieces.{KeepsPages}
use Rattle.c_answers.specs.Unstamped.{FitsPage}
use Rattle.precopy_c.proofs.unstamped_checks.precopy_trace_check_bytes.Goals as goal

pub returns-in-Ok-clause-kept : goal.returns-in-Ok-clause-kept
returns-in-Ok-clause-kept c = λ t shown.
    let same : t ≡ c.opened.result = one_trace_lem c.args.trace.now.bytes.now t c.opened.result shown.is_open.spells
    c.opened.ensures.is_open.spells in
    subst (λ (t : GuestTrace). KeepsPages t c.take_open_bytes.new.greatest c.take_open_bytes.new.memory) (sym same)
    c.take_open_bytes.ensures.kept

pub returns-in-Err-clause-only : goal.returns-in-Err-clause-only
returns-in-Err-clause-only c = λ t version shown fits fitting.
    let same : t ≡ c.opened.result = one_trace_lem c.args.trace.now.bytes.now t c.opened.result shown.is_open.spells
    c.opened.ensures.is_open.spells in
    let page = c.args.page in
    let content : List ℕ = c.args.content.now in
    let greatest : List ℕ = c.args.greatest.now in
    let answers = c.in-Err.ensures.only version
    (subst (λ (t : GuestTrace). FitsPage t page content greatest c.args.memory.now) same fits)
    (subst (λ (t : GuestTrace). IsFittingVersion t c.args.stop page (kept_version greatest page) content version) same
    fitting) in
    let one : ℕ = 1 in
    let none : ℕ = 0 in
    absurd (omega (arith, ap (λ (b : Bool). cond b one none) answers))
