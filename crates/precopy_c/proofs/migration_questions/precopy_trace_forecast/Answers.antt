use Rattle.std.proofs.Common.{inr, subst, ◌∙◌}
use Rattle.migration_model.specs.Trace.{GuestTrace}
use Rattle.migration_model.proofs.Traces.{one_trace_lem}
use Rattle.predictions.specs.Questions.{Fits, scale_in}
use Rattle.precopy_c.proofs.migration_questions.precopy_trace_forecast.Goals as goal

pub returns-in-Err-clause-only : goal.returns-in-Err-clause-only
returns-in-Err-clause-only c t shown asked fits =
    let same = one_trace_lem c.args.trace.now.bytes.now t c.opened.result shown.is_open.spells
    c.opened.ensures.is_open.spells in
    inr (c.number.ensures.number ∙ c.in-Err.ensures.only asked
    (subst (λ (t : GuestTrace). Fits (scale_in c.args.question.now.question) t.shift t.pages) same fits))
