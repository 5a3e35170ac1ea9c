-- Questions about a migration, and their answers, in the numbers that C and a web page have. This project's own.
pub mod Answers
use Rattle.std.specs.Prelude.{◌≡◌, ◌≢◌, ◌⊎◌, ℕ, ◌-◌, ◌^◌, ◌<◌, ◌≤◌, ◌==◌, min, not, if◌then◌else◌, Option, None, Some}
use Rattle.predictions.specs.Units.Limits.{RefusesLimits, limits_refusal, settings_in}
use Rattle.predictions.specs.Units.Scales.{TraceScale, scale_refusal, scale_with}
use Rattle.predictions.specs.declared.units.error.UnitsError.{UnitsError}
use Rattle.predictions.specs.declared.units.limits.Limits.{Limits}
use Rattle.migration_model.specs.Rates.{AreSettings, MigrationSettings, StopReason, few_remain, rounds_done, too_fast}
use Rattle.predictions.specs.Courses.Ends.{end_number}
use Rattle.predictions.specs.Predictions.{GuestPrediction, kept_of, verdict_of}
use Rattle.predictions.specs.declared.answer.Answer.{Answer}
use Rattle.predictions.specs.declared.course.Course.{Course}
use Rattle.predictions.specs.declared.course.Manner.{Manner}
use Rattle.predictions.specs.declared.course.Manner.TheVariants as manners
use Rattle.predictions.specs.declared.answer.ErrorNumbers.{ErrorNumbers}
use Rattle.predictions.specs.declared.question.Misfit.{Misfit}
use Rattle.predictions.specs.declared.question.Misfit.TheVariants as misfits
use Rattle.predictions.specs.declared.question.Question.{Question}
use Rattle.predictions.specs.declared.question.Terms.{Terms}
use Rattle.predictions.specs.declared.verdict.Verdict.{Verdict}
use Rattle.predictions.specs.declared.verdict.Verdict.TheVariants as verdicts
use Rattle.predictions.specs.Redrawn.Errors.{SampleErrors}

-- a number that is given if the one beside it is not 0
abbrev pub given : ℕ → ℕ → Option ℕ
given has number = if has == 0 then None else Some number

-- what the first round may use, if that is given and there are rounds
abbrev pub first_in : Question → Option ℕ
first_in q = if q.clark == 0 then None else given q.has_first q.first

-- what ticks and pages of the trace stand for, and what the migration may take
abbrev pub scale_in : Question → TraceScale
scale_in q = scale_with q.tick q.page q.sampled q.guest

abbrev pub limits_in : Question → Limits
limits_in q = record { link = q.link; first = first_in q; downtime = q.downtime; reserve = q.reserve }

-- The settings that limits do not make. A prediction has no windows and no threads: these are those of `precopy-view`
-- where nothing else is said, and one thread of each kind.
abbrev pub others_in : Question → MigrationSettings
others_in q = record {
  min = 1;
  max = 1;
  increment = 0;
  threshold = 1;
  rounds = q.rounds;
  start = q.start;
  window = 1_000;
  hot = 2;
  workers = 1;
  streams = 1;
  replayers = 1;
  lane = 1;
  skip = not (q.skip == 0);
  base = given q.has_base q.base;
}

-- the settings of the plan that answers a question
abbrev pub settings_of : Question → MigrationSettings
settings_of q = settings_in (scale_in q) (limits_in q) (given q.has_increment q.increment) (others_in q)

-- by whose plan the migration goes
abbrev pub manner_in : Question → Manner
manner_in q = if q.clark == 0 then manners.Looks else manners.Rounds

-- what a question comes to
abbrev pub terms_of : Question → Terms
terms_of q = record { scale = scale_in q; limits = limits_in q; manner = manner_in q; settings = settings_of q }

-- a question is refused: for its scale, or else for its limits or another setting
abbrev pub RefusesQuestion : Question → UnitsError → Type 0
RefusesQuestion q e = (scale_refusal (scale_in q) ≡ Some e) ⊎ ((scale_refusal (scale_in q) ≡ None)
    × RefusesLimits (scale_in q) (limits_in q) (given q.has_increment q.increment) (others_in q) e)

-- a question is not refused
pub record AcceptsQuestion (q : Question) : Type 0 where
  pub scale : scale_refusal (scale_in q) ≡ None
  pub limits : limits_refusal (scale_in q) (limits_in q) ≡ None
  pub settings : AreSettings (settings_of q)

-- the pages of a trace have the scale's size, and there are no more of them than were sampled
abbrev pub Fits : TraceScale → ℕ → ℕ → Type 0
Fits scale shift pages = (2 ^ shift ≡ scale.page) × (scale.sampled < scale.guest → pages ≤ scale.sampled)

-- a trace does not have the scale
abbrev pub IsMisfit : TraceScale → ℕ → ℕ → Misfit → Type 0
IsMisfit scale shift pages misfits.PageSize = 2 ^ shift ≢ scale.page
IsMisfit scale shift pages misfits.TooManyPages =
    (2 ^ shift ≡ scale.page) × (scale.sampled < scale.guest) × (scale.sampled < pages)

-- a number as 64 bits hold it: what is above their greatest is told as that
abbrev pub capped : ℕ → ℕ
capped n = min n (2 ^ 64 - 1)

-- the number of a reason, and that of a verdict
abbrev pub reason_number : StopReason → ℕ
reason_number few_remain = 0
reason_number too_fast = 1
reason_number rounds_done = 2

abbrev pub verdict_number : Verdict → ℕ
verdict_number verdicts.Yes = 0
verdict_number verdicts.No = 1
verdict_number verdicts.Unknown = 2
verdict_number verdicts.Uncertain = 3

-- the answer: what the plan comes to, and what it predicts
abbrev pub answer_of : Course → GuestPrediction → Answer
answer_of course p = record {
  rounds = course.steps;
  reason = end_number p.ending;
  stop = course.stop;
  down = course.down;
  total = course.total;
  left = p.left;
  time = capped p.cost.time;
  bytes = capped p.cost.bytes;
  downtime = capped p.cost.downtime;
  recorded = capped p.recorded;
  converges = verdict_number (verdict_of p);
  kept = verdict_number (kept_of p.cost);
}

-- the standard errors, if there are any
abbrev pub error_numbers : Option SampleErrors → ErrorNumbers
error_numbers None = record { bytes = 0; time = 0; downtime = 0; has_errors = 0 }
error_numbers (Some errors) =
    record {
      bytes = capped errors.bytes;
      time = capped errors.time;
      downtime = capped errors.downtime;
      has_errors = 1;
    }
