-- What C sees of predictions, and why there is none.
use Rattle.std.specs.Prelude.{◌≡◌, ◌≢◌, ℕ, Option}
use Rattle.c_layout.specs.Refusals.{number_of_misfit, number_of_units}
use Rattle.migration_model.specs.Touches.{GuestTouches, touches_in, touches_of}
use Rattle.migration_model.specs.Trace.{GuestTrace}
use Rattle.predictions.specs.Questions.{AcceptsQuestion, Fits, IsMisfit, RefusesQuestion, error_numbers, scale_in}
use Rattle.predictions.specs.Questions.{terms_of}
use Rattle.predictions.specs.Questions.Answers.{IsAnswer}
use Rattle.predictions.specs.declared.answer.Answer.{Answer}
use Rattle.predictions.specs.declared.answer.ErrorNumbers.{ErrorNumbers}
use Rattle.predictions.specs.declared.question.Question.{Question}
use Rattle.predictions.specs.declared.question.Terms.{Terms}
use Rattle.predictions.specs.Redrawn.Errors.{AreErrors, SampleErrors}
use Rattle.c_answers.specs.declared.inquiries.Inquiry.{Inquiry}
use Rattle.c_answers.specs.declared.questions.QuestionRefusal.{QuestionRefusal}
use Rattle.c_answers.specs.declared.questions.QuestionRefusal.TheVariants as refusals
use Rattle.c_answers.specs.declared.questions.SizedQuestion.{SizedQuestion}

abbrev pub number_of_question : QuestionRefusal → ℕ
number_of_question refusals.Size = 31
number_of_question (refusals.Units e) = number_of_units e
number_of_question (refusals.Misfit e) = number_of_misfit e
number_of_question refusals.Memory = 16

-- this is the number of a refusal for which that holds
abbrev pub IsNumberOfQuestion : ℕ → (QuestionRefusal → Type 0) → Type 0
IsNumberOfQuestion number Holds = (refusal : QuestionRefusal) × (number ≡ number_of_question refusal) × Holds refusal

-- the struct is as long as this library knows it, and the question is not refused
abbrev pub IsAsked : SizedQuestion → Type 0
IsAsked asked = (asked.size ≡ 128) × AcceptsQuestion asked.question

-- a question that may be asked of a trace, what it comes to, and the touches of the trace, which has its scale
pub record IsInquiry (trace : GuestTrace) (asked : SizedQuestion) (inquiry : Inquiry) : Type 0 where
  pub is_asked : IsAsked asked
  pub fits : Fits (scale_in asked.question) trace.shift trace.pages
  pub terms_are : inquiry.terms ≡ terms_of asked.question
  pub log_is : inquiry.log ≡ touches_in trace

-- the standard errors of the answer to a question over a log of touches, if there are any
pub record AreNumbersOver (terms : Terms) (log : GuestTouches) (numbers : ErrorNumbers) : Type 0 where
  pub errors : Option SampleErrors
  pub are_errors : AreErrors terms.manner log.pages log.touches terms.settings terms.scale errors
  pub numbers_are : numbers ≡ error_numbers errors

-- the answer and its standard errors, over a trace that has the question's scale
pub record IsPredictionOf (trace : GuestTrace) (q : Question) (answer : Answer) (numbers : ErrorNumbers)
    : Type 0 where
  pub fits : Fits (scale_in q) trace.shift trace.pages
  pub answered : IsAnswer (terms_of q) trace.pages (touches_of trace) answer
  pub numbered : AreNumbersOver (terms_of q) (touches_in trace) numbers

-- There is no answer: the struct is longer or shorter, or else the question is refused, or else the trace since it does
-- not have the scale; or memory ran out.
abbrev pub RefusesPrediction : GuestTrace → SizedQuestion → QuestionRefusal → Type 0
RefusesPrediction trace asked refusals.Size = asked.size ≢ 128
RefusesPrediction trace asked (refusals.Units e) = (asked.size ≡ 128) × RefusesQuestion asked.question e
RefusesPrediction trace asked (refusals.Misfit e) =
    IsAsked asked × IsMisfit (scale_in asked.question) trace.shift trace.pages e
RefusesPrediction trace asked refusals.Memory = IsAsked asked × Fits (scale_in asked.question) trace.shift trace.pages
