use Rattle.std.proofs.Common.{inl, inr, arith}
use Rattle.c_answers.proofs.Given.{lacking_range}
use Rattle.precopy_c.proofs.open_trace_plans.precopy_trace_report.Goals as goal

pub returns-clause-given : goal.returns-clause-given
returns-clause-given c told =
    let range = lacking_range c.args.settings.now c.in-Err.refusal c.in-Err.ensures.refused in
    elim told [
      | inl made ↦ absurd (omega (arith, made, c.number-in-Err.ensures.number, range.0))
      | inr short ↦ absurd (omega (arith, short, c.number-in-Err.ensures.number, range.1))
    ]
