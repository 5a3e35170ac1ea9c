-- What a caller sees of a prediction, and why there is none.
use Rattle.std.specs.Prelude.{◌≡◌, ℕ, List}
use Rattle.migration_model.specs.Rounds.{IsPlan, MigrationPlan}
use Rattle.migration_model.specs.Touches.{GuestTouch, touches_of}
use Rattle.migration_model.specs.Trace.{GuestTrace, Spells}
use Rattle.predictions.specs.Courses.{IsCourseOver}
use Rattle.predictions.specs.Predictions.Traces.{IsPrediction}
use Rattle.predictions.specs.Questions.{AcceptsQuestion, Fits, IsMisfit, RefusesQuestion, scale_in}
use Rattle.predictions.specs.Questions.Answers.{IsAnswer}
use Rattle.predictions.specs.declared.answer.Answer.{Answer}
use Rattle.predictions.specs.declared.course.Manner.{Manner}
use Rattle.predictions.specs.declared.course.Manner.TheVariants as manners
use Rattle.predictions.specs.declared.question.Question.{Question}
use Rattle.predictions.specs.declared.question.Terms.{Terms}
use Rattle.round_planner.specs.Rows.{rows_over}
use Rattle.round_planner.specs.declared.parts.RoundRow.{RoundRow}
use Rattle.trace_codec.specs.Refusals.{Refuses}
use Rattle.browser_planner.specs.declared.answers.Refusal.{Refusal}
use Rattle.browser_planner.specs.declared.answers.Refusal.TheVariants as refusals
use Rattle.browser_planner.specs.declared.foretelling.Foretold.{Foretold}

-- these bytes encode a trace of which that holds, and which may have the question's scale
pub record OfTrace (bytes : List ℕ) (q : Question) (Holds : GuestTrace → Type 0) : Type 0 where
  pub trace : GuestTrace
  pub spells : Spells bytes trace
  pub fits : Fits (scale_in q) trace.shift trace.pages
  pub holds : Holds trace

-- this is what the plan of a guest of `pages` pages with these touches comes to and predicts, by a manner
pub record IsForetold (manner : Manner) (terms : Terms) (pages : ℕ) (touches : List GuestTouch) (foretold : Foretold)
    : Type 0 where
  pub comes_to : IsCourseOver manner pages touches terms.scale terms.settings foretold.course
  pub predicts : IsPrediction manner pages touches terms.scale terms.limits terms.settings foretold.prediction

-- Clark's rounds are at the front of a buffer, of the plan of a guest of `pages` pages with these touches
pub record AreRoundsOver (terms : Terms) (pages : ℕ) (touches : List GuestTouch) (old new : List RoundRow)
    : Type 0 where
  pub plan : MigrationPlan
  pub is_plan : IsPlan pages touches terms.settings plan
  pub rows_are : new ≡ rows_over plan.rounds old

-- a hypervisor has no rounds: the buffer stays as it is
abbrev pub AreRowsBy : Manner → Terms → ℕ → List GuestTouch → List RoundRow → List RoundRow → Type 0
AreRowsBy manners.Looks terms pages touches old new = new ≡ old
AreRowsBy manners.Rounds terms pages touches old new = AreRoundsOver terms pages touches old new

-- this is the answer to a question about a trace, and if it goes by Clark's rounds, these are at the front of a buffer
pub record IsAnswerTo (terms : Terms) (answer : Answer) (old new : List RoundRow) (trace : GuestTrace) : Type 0 where
  pub is_answer : IsAnswer terms trace.pages (touches_of trace) answer
  pub are_rows : AreRowsBy terms.manner terms trace.pages (touches_of trace) old new

-- There is no answer: the question is refused, or else the bytes, or else the trace since it does not have the scale,
-- or else what is lent is too short for it.
abbrev pub RefusesAsked : List ℕ → Question → (GuestTrace → Type 0) → Refusal → Type 0
RefusesAsked bytes q HasRoom (refusals.Units e) = RefusesQuestion q e
RefusesAsked bytes q HasRoom (refusals.Trace e) = AcceptsQuestion q × Refuses bytes e
RefusesAsked bytes q HasRoom (refusals.Misfit e) =
    AcceptsQuestion q × (trace : GuestTrace) × Spells bytes trace × IsMisfit (scale_in q) trace.shift trace.pages e
RefusesAsked bytes q HasRoom refusals.ShortBuffer = AcceptsQuestion q × OfTrace bytes q (λ trace. HasRoom trace → ⊥)
RefusesAsked bytes q HasRoom (refusals.Settings e) = ⊥
