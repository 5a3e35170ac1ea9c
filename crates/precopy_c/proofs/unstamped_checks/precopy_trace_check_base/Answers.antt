use Rattle.std.proofs.Common.{◌≡◌, subst, sym}
use Rattle.migration_model.specs.Trace.{GuestTrace}
use Rattle.migration_model.proofs.Traces.{one_trace_lem}
use Rattle.c_answers.specs.OpenPieces.{KeepsPages}
use Rattle.precopy_c.proofs.unstamped_checks.precopy_trace_check_base.Goals as goal

pub returns-in-Ok-clause-kept : goal.returns-in-Ok-clause-kept
returns-in-Ok-clause-kept c = λ t shown.
    let same : t ≡ c.opened.result = one_trace_lem c.args.trace.now.bytes.now t c.opened.result shown.is_open.spells
    c.opened.ensures.is_open.spells in
    subst (λ (t : GuestTrace). KeepsPages t c.begin_before.new.greatest c.begin_before.new.memory) (sym same)
    c.begin_before.ensures.kept
