-- The answer to a question over a trace. This project's own.
use Rattle.std.specs.Prelude.{◌≡◌, ℕ, List}
use Rattle.migration_model.specs.Touches.{GuestTouch}
use Rattle.predictions.specs.Courses.{IsCourseOver}
use Rattle.predictions.specs.Predictions.{GuestPrediction}
use Rattle.predictions.specs.Predictions.Traces.{IsPrediction}
use Rattle.predictions.specs.Questions.{answer_of}
use Rattle.predictions.specs.declared.answer.Answer.{Answer}
use Rattle.predictions.specs.declared.course.Course.{Course}
use Rattle.predictions.specs.declared.question.Terms.{Terms}

-- the answer of what the plan of a guest of `pages` pages with these touches comes to, and of what it predicts
pub record IsAnswer (terms : Terms) (pages : ℕ) (touches : List GuestTouch) (answer : Answer) : Type 0 where
  pub course : Course
  pub is_course : IsCourseOver terms.manner pages touches terms.scale terms.settings course
  pub prediction : GuestPrediction
  pub is_prediction : IsPrediction terms.manner pages touches terms.scale terms.limits terms.settings prediction
  pub answer_is : answer ≡ answer_of course prediction
