use Rattle.predictions.proofs.Accepted.{limits_refused}
use Rattle.predictions.proofs.question.Question.terms.Goals as goal

pub returns-in_err-settings-clause-only : goal.returns-in_err-settings-clause-only
returns-in_err-settings-clause-only c accepted =
    let refused = rw (
      c.in_ok-scale.ensures.made,
      c.limits-limits.ensures,
      c.given-increment.ensures,
      c.others.ensures,
    ) at c.in_err-settings.ensures.refused in
    absurd (limits_refused c.args.self.now _ refused accepted)
