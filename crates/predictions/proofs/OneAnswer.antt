-- The answer to a question over a trace is determined.
use Rattle.std.proofs.Common.{◌≡◌, ◌∙◌, ℕ, List, sym, ap}
use Rattle.migration_model.specs.Touches.{GuestTouch, last_tick_of}
use Rattle.predictions.proofs.OneCourse.{one_course_lem}
use Rattle.predictions.proofs.OnePrediction.{one_prediction_lem}
use Rattle.predictions.specs.Predictions.{GuestPrediction}
use Rattle.predictions.specs.Questions.{answer_of}
use Rattle.predictions.specs.Questions.Answers.{IsAnswer}
use Rattle.predictions.specs.declared.answer.Answer.{Answer}
use Rattle.predictions.specs.declared.course.Course.{Course}
use Rattle.predictions.specs.declared.question.Terms.{Terms}

pub one_answer_lem : (terms : Terms) (pages : ℕ) (touches : List GuestTouch) (a b : Answer)
    → IsAnswer terms pages touches a → IsAnswer terms pages touches b → a ≡ b
one_answer_lem terms pages touches a b x y =
    x.answer_is ∙ ap (λ (course : Course). answer_of course x.prediction)
    (one_course_lem terms.manner pages (last_tick_of touches) touches terms.scale terms.settings x.course y.course
    x.is_course y.is_course)
    ∙ ap (λ (p : GuestPrediction). answer_of y.course p)
    (one_prediction_lem terms.manner pages touches terms.scale terms.limits terms.settings x.prediction y.prediction
    x.is_prediction y.is_prediction)
    ∙ sym y.answer_is
