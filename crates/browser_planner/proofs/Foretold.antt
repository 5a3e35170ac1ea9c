-- What plans come to and predict, and the answers that tell it.
use Rattle.std.proofs.Common.{◌≡◌, ℕ, List, ap, length, subst, take, ◌∙◌}
use Rattle.migration_model.specs.Touches.{GuestTouch, last_tick_of, touches_of}
use Rattle.migration_model.specs.Trace.{GuestTrace, last_by}
use Rattle.migration_model.specs.Sweeps.{PlanOutcome}
use Rattle.predictions.specs.Courses.{IsCourseOver}
use Rattle.predictions.specs.Courses.Ends.{course_of_rounds}
use Rattle.predictions.specs.Predictions.{GuestPrediction, prediction_with}
use Rattle.predictions.specs.Predictions.Traces.{IsPrediction}
use Rattle.predictions.specs.Questions.{answer_of}
use Rattle.predictions.specs.Questions.Answers.{IsAnswer}
use Rattle.predictions.specs.declared.answer.Answer.{Answer}
use Rattle.predictions.specs.declared.course.Course.{Course}
use Rattle.predictions.specs.declared.course.Manner.TheVariants as manners
use Rattle.predictions.specs.declared.question.Terms.{Terms}
use Rattle.round_planner.specs.Rows.{IsPlanned}
use Rattle.round_planner.specs.declared.parts.RoundRow.{RoundRow}
use Rattle.browser_planner.specs.Predictions.{AreRoundsOver, AreRowsBy, IsAnswerTo, IsForetold}
use Rattle.browser_planner.specs.Touches.{LentTimeline, timeline_with}
use Rattle.browser_planner.specs.declared.foretelling.Foretold.{Foretold}
use Rattle.browser_planner.proofs.Left.{left_is}

-- what Clark's plan comes to
pub comes_to : (pages : ℕ) (touches : List GuestTouch) (terms : Terms) (outcome : PlanOutcome) (course : Course)
    (old new : List RoundRow) → IsPlanned pages touches terms.settings outcome old new
    → course ≡ course_of_rounds outcome
    → IsCourseOver manners.Rounds pages touches terms.scale terms.settings course
comes_to pages touches terms outcome course old new planned is = (
  outcome,
  record { plan = planned.plan; is_plan = planned.is_plan; outcome_is = planned.outcome_is },
  is,
)

-- a prediction that is made of the result of a plan, and of what its last row says
pub predicted_is : (pages : ℕ) (touches : List GuestTouch) (terms : Terms) (outcome : PlanOutcome) (left : ℕ)
    (prediction : GuestPrediction) (old new : List RoundRow)
    → IsPlanned pages touches terms.settings outcome old new
    → left ≡ last_by (λ (row : RoundRow). row.dirtied) (take outcome.rounds new)
    → prediction ≡ prediction_with terms.scale terms.limits terms.settings.start outcome left (last_tick_of touches)
    → IsPrediction manners.Rounds pages touches terms.scale terms.limits terms.settings prediction
predicted_is pages touches terms outcome left prediction old new planned left_by is =
    let leaves : left ≡ length planned.plan.last = left_by
    ∙ left_is pages touches terms.settings planned.plan old new outcome.rounds planned.is_plan
    planned.rows_are (ap (λ (o : PlanOutcome). o.rounds) planned.outcome_is) in (
      planned.plan,
      planned.is_plan,
      is ∙ (λ i. prediction_with terms.scale terms.limits terms.settings.start
          (planned.outcome_is i) (leaves i) (last_tick_of touches)),
    )

-- its rounds
pub rounds_over : (pages : ℕ) (touches : List GuestTouch) (terms : Terms) (outcome : PlanOutcome)
    (old new : List RoundRow) → IsPlanned pages touches terms.settings outcome old new
    → AreRoundsOver terms pages touches old new
rounds_over pages touches terms outcome old new planned =
    record { plan = planned.plan; is_plan = planned.is_plan; rows_are = planned.rows_are }

-- the answer of what the plan of a log comes to and predicts, which is that of a trace
pub answered : (trace : GuestTrace) (terms : Terms) (log : LentTimeline) (foretold : Foretold) (answer : Answer)
    (old new : List RoundRow) → log ≡ timeline_with trace.pages (touches_of trace)
    → IsForetold terms.manner terms log.pages log.touches foretold
    → AreRowsBy terms.manner terms log.pages log.touches old new
    → answer ≡ answer_of foretold.course foretold.prediction → IsAnswerTo terms answer old new trace
answered trace terms log foretold answer old new of is rows told = record {
  is_answer = subst (λ (l : LentTimeline). IsAnswer terms l.pages l.touches answer) of (record {
    course = foretold.course;
    is_course = is.comes_to;
    prediction = foretold.prediction;
    is_prediction = is.predicts;
    answer_is = told;
  });
  are_rows = subst (λ (l : LentTimeline). AreRowsBy terms.manner terms l.pages l.touches old new) of rows;
}
