-- What is accepted is not refused.
use Rattle.predictions.specs.Units.Limits.{RefusesLimits}
use Rattle.predictions.specs.declared.units.error.UnitsError.{UnitsError}
use Rattle.predictions.specs.declared.units.error.UnitsError.TheVariants as errors
use Rattle.rate_limit.proofs.Ranges.{refused_lem}
use Rattle.predictions.specs.Questions.{AcceptsQuestion, given, limits_in, others_in, scale_in, settings_of}
use Rattle.predictions.specs.declared.question.Question.{Question}

pub limits_refused : (q : Question) (e : UnitsError)
    → RefusesLimits (scale_in q) (limits_in q) (given q.has_increment q.increment) (others_in q) e
    → AcceptsQuestion q → ⊥
limits_refused q (errors.Setting e) refused accepted = refused_lem (settings_of q) e refused.1 accepted.settings
limits_refused q errors.Tick refused accepted = refused
limits_refused q errors.Page refused accepted = refused
limits_refused q errors.Sampled refused accepted = refused
limits_refused q errors.Link refused accepted = absurd (cc (refused, accepted.limits))
limits_refused q errors.First refused accepted = absurd (cc (refused, accepted.limits))
limits_refused q errors.Reserve refused accepted = absurd (cc (refused, accepted.limits))
limits_refused q errors.Downtime refused accepted = absurd (cc (refused, accepted.limits))
