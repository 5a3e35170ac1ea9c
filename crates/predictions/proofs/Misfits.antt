-- Of two misfits, one rules out the other.
use Rattle.std.proofs.Common.{◌≡◌, ℕ, refl}
use Rattle.predictions.specs.Questions.{IsMisfit}
use Rattle.predictions.specs.Units.Scales.{TraceScale}
use Rattle.predictions.specs.declared.question.Misfit.{Misfit}
use Rattle.predictions.specs.declared.question.Misfit.TheVariants.{PageSize, TooManyPages}

pub one_misfit_lem : (scale : TraceScale) (shift pages : ℕ) (a b : Misfit) → IsMisfit scale shift pages a
    → IsMisfit scale shift pages b → a ≡ b
one_misfit_lem scale shift pages PageSize PageSize is_a is_b = refl
one_misfit_lem scale shift pages PageSize TooManyPages is_a is_b = absurd (is_a is_b.0)
one_misfit_lem scale shift pages TooManyPages PageSize is_a is_b = absurd (is_b is_a.0)
one_misfit_lem scale shift pages TooManyPages TooManyPages is_a is_b = refl
