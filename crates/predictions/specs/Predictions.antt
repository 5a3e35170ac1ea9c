-- What a migration will be, in time and bytes, by its plan. This project's own.
pub mod Traces
use Rattle.std.specs.Prelude.{ℕ, ◌+◌, ◌-◌, ◌&&◌, nat_le, nat_lt, Bool, if◌then◌else◌, List, length, codes}
use Rattle.predictions.specs.Units.Scales.{TraceScale, bytes_of, micros_of}
use Rattle.predictions.specs.Courses.Ends.{converges, course_of_rounds, is_bounded, stops_guest}
use Rattle.predictions.specs.declared.course.Course.{Course}
use Rattle.predictions.specs.declared.course.CourseEnd.{CourseEnd}
use Rattle.predictions.specs.declared.course.Manner.{Manner}
use Rattle.predictions.specs.declared.course.Manner.TheVariants as manners
use Rattle.predictions.specs.declared.units.limits.Limits.{Limits}
use Rattle.migration_model.specs.Rounds.{MigrationPlan}
use Rattle.migration_model.specs.Sweeps.{PlanOutcome, outcome_of}
use Rattle.predictions.specs.declared.verdict.Verdict.{Verdict}
use Rattle.predictions.specs.declared.verdict.Verdict.TheVariants as verdicts

-- What a migration costs, whose plan has so many rounds or looks. Times are in microseconds: from its start until the
-- guest runs again, and without the guest running. Bytes are of the guest. Whether the guest is stopped for no longer
-- than the limit, whether it is stopped only when what is left fits that, and whether the stop comes after the trace's
-- last tick.
pub record MigrationCost : Type 0 where
  pub steps : ℕ
  pub time : ℕ
  pub bytes : ℕ
  pub downtime : ℕ
  pub is_kept : Bool
  pub is_bounded : Bool
  pub is_late : Bool

-- what a migration will be: by whose plan it goes, why that ends, what it costs, how many pages of the trace are sent
-- after the stop, and for how many microseconds the trace goes on after the start
pub record GuestPrediction : Type 0 where
  pub manner : Manner
  pub ending : CourseEnd
  pub cost : MigrationCost
  pub left : ℕ
  pub recorded : ℕ

-- how long the guest does not run: for the pages that are left, and what is reserved
abbrev pub downtime_of : TraceScale → Limits → ℕ → ℕ
downtime_of scale limits ticks = micros_of scale ticks + limits.reserve

-- whether a plan that comes to this keeps its limit: it stops the guest, and for no longer
abbrev pub keeps_limit : TraceScale → Limits → Course → Bool
keeps_limit scale limits course =
    stops_guest course.ending && nat_le (downtime_of scale limits course.down) limits.downtime

-- what a migration costs that begins at a tick and whose plan comes to this, over touches with this last tick
abbrev pub cost_of : TraceScale → Limits → ℕ → Course → ℕ → MigrationCost
cost_of scale limits start course last_tick = record {
  steps = course.steps;
  time = micros_of scale (course.stop - start) + downtime_of scale limits course.down;
  bytes = bytes_of scale course.total;
  downtime = downtime_of scale limits course.down;
  is_kept = keeps_limit scale limits course;
  is_bounded = is_bounded course.ending;
  is_late = nat_lt last_tick course.stop;
}

-- what a plan predicts, by what it comes to and the number of pages that it leaves
abbrev pub prediction_by : Manner → TraceScale → Limits → ℕ → Course → ℕ → ℕ → GuestPrediction
prediction_by manner scale limits start course left last_tick = record {
  manner = manner;
  ending = course.ending;
  cost = cost_of scale limits start course last_tick;
  left = left;
  recorded = micros_of scale (last_tick - start);
}

-- what Clark's plan predicts
abbrev pub prediction_with : TraceScale → Limits → ℕ → PlanOutcome → ℕ → ℕ → GuestPrediction
prediction_with scale limits start outcome left last_tick =
    prediction_by manners.Rounds scale limits start (course_of_rounds outcome) left last_tick

abbrev pub prediction_of : TraceScale → Limits → ℕ → MigrationPlan → ℕ → GuestPrediction
prediction_of scale limits start plan last_tick =
    prediction_with scale limits start (outcome_of plan) (length plan.last) last_tick

-- The answer to a question about a migration. Nothing is known if the trace ends before the migration does: writes that
-- it lacks could change any answer.
abbrev pub answer : Bool → Bool → Verdict
answer is_late holds = if is_late then verdicts.Unknown else (if holds then verdicts.Yes else verdicts.No)

abbrev pub verdict_word : Verdict → List ℕ
verdict_word verdicts.Yes = codes "yes"
verdict_word verdicts.No = codes "no"
verdict_word verdicts.Unknown = codes "unknown"
verdict_word verdicts.Uncertain = codes "uncertain"

-- whether a migration converges, and whether it keeps its limit
abbrev pub verdict_of : GuestPrediction → Verdict
verdict_of p = answer p.cost.is_late (converges p.ending)

abbrev pub kept_of : MigrationCost → Verdict
kept_of cost = answer cost.is_late cost.is_kept
