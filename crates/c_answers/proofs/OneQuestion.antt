-- A question over a trace is refused for one thing.
use Rattle.std.proofs.Common.{◌≡◌, refl, ap}
use Rattle.c_layout.proofs.Asked.{asked_not, fits_not}
use Rattle.migration_model.specs.Trace.{GuestTrace}
use Rattle.predictions.specs.Questions.{scale_in}
use Rattle.predictions.specs.declared.question.Misfit.{Misfit}
use Rattle.predictions.specs.declared.units.error.UnitsError.{UnitsError}
use Rattle.predictions.proofs.Misfits.{one_misfit_lem}
use Rattle.predictions.proofs.OneRefusal.{one_refusal}
use Rattle.c_answers.specs.Predictions.{RefusesPrediction}
use Rattle.c_answers.specs.declared.questions.QuestionRefusal.{QuestionRefusal}
use Rattle.c_answers.specs.declared.questions.QuestionRefusal.TheVariants as refusals
use Rattle.c_answers.specs.declared.questions.SizedQuestion.{SizedQuestion}

pub one_prediction : (trace : GuestTrace) (asked : SizedQuestion) (a b : QuestionRefusal)
    → RefusesPrediction trace asked a → RefusesPrediction trace asked b → a ≡ b
one_prediction trace asked refusals.Size refusals.Size x y = refl
one_prediction trace asked refusals.Size (refusals.Units f) x y = absurd (x y.0)
one_prediction trace asked refusals.Size (refusals.Misfit f) x y = absurd (x y.0.0)
one_prediction trace asked refusals.Size refusals.Memory x y = absurd (x y.0.0)
one_prediction trace asked (refusals.Units e) refusals.Size x y = absurd (y x.0)
one_prediction trace asked (refusals.Units e) (refusals.Units f) x y =
    ap (λ (c : UnitsError). refusals.Units c) (one_refusal asked.question e f x.1 y.1)
one_prediction trace asked (refusals.Units e) (refusals.Misfit f) x y = absurd (asked_not asked.question e x.1 y.0.1)
one_prediction trace asked (refusals.Units e) refusals.Memory x y = absurd (asked_not asked.question e x.1 y.0.1)
one_prediction trace asked (refusals.Misfit e) refusals.Size x y = absurd (y x.0.0)
one_prediction trace asked (refusals.Misfit e) (refusals.Units f) x y = absurd (asked_not asked.question f y.1 x.0.1)
one_prediction trace asked (refusals.Misfit e) (refusals.Misfit f) x y =
    ap (λ (c : Misfit). refusals.Misfit c)
    (one_misfit_lem (scale_in asked.question) trace.shift trace.pages e f x.1 y.1)
one_prediction trace asked (refusals.Misfit e) refusals.Memory x y =
    absurd (fits_not (scale_in asked.question) trace.shift trace.pages e x.1 y.1)
one_prediction trace asked refusals.Memory refusals.Size x y = absurd (y x.0.0)
one_prediction trace asked refusals.Memory (refusals.Units f) x y = absurd (asked_not asked.question f y.1 x.0.1)
one_prediction trace asked refusals.Memory (refusals.Misfit f) x y =
    absurd (fits_not (scale_in asked.question) trace.shift trace.pages f y.1 x.1)
one_prediction trace asked refusals.Memory refusals.Memory x y = refl
