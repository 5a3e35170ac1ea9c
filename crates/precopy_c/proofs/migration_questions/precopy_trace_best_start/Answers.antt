use Rattle.std.proofs.Common.{inr, subst, ◌∙◌}
use Rattle.migration_model.specs.Trace.{GuestTrace}
use Rattle.migration_model.proofs.Traces.{one_trace_lem}
use Rattle.c_answers.specs.Starts.{IsAskedOfBest}
use Rattle.precopy_c.proofs.migration_questions.precopy_trace_best_start.Goals as goal

pub returns-in-Err-clause-only : goal.returns-in-Err-clause-only
returns-in-Err-clause-only c t shown asked =
    let same = one_trace_lem c.args.trace.now.bytes.now t c.opened.result shown.is_open.spells
    c.opened.ensures.is_open.spells in
    inr (c.number.ensures.number ∙ c.in-Err.ensures.only
    (subst (λ (t : GuestTrace). IsAskedOfBest t c.args.question.now c.args.starts.now) same asked))
