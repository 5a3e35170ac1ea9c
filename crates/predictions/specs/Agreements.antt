-- How sure an answer is: of the guests that are drawn again, and of the starts that a record allows, how many have the
-- same answer. This project's own.
pub mod Texts
pub mod Numbers
use Rattle.std.specs.Prelude.{◌≡◌, ℕ, ◌-◌, ◌*◌, ◌/◌, ◌&&◌, ◌||◌, max, min, nat_le, not, if◌then◌else◌, Bool, true}
use Rattle.std.specs.Prelude.{List, length, map, Option, None, Some}
use Rattle.std.specs.List.{AllZip, count_by, range_with_len}
use Rattle.migration_model.specs.Rates.{MigrationSettings}
use Rattle.migration_model.specs.Touches.{GuestTouch, last_tick_of}
use Rattle.predictions.specs.Courses.{IsCourseOver}
use Rattle.predictions.specs.Courses.Ends.{converges, is_bounded}
use Rattle.predictions.specs.Predictions.{GuestPrediction, MigrationCost, keeps_limit, kept_of, verdict_of}
use Rattle.predictions.specs.Redrawn.Draws.{draws_of}
use Rattle.predictions.specs.Redrawn.Errors.{AreRedrawn, HasErrors, SampleErrors}
use Rattle.predictions.specs.Starts.Choices.{is_likely}
use Rattle.predictions.specs.Starts.Costs.{CostAtStart}
use Rattle.predictions.specs.Starts.Ranges.{spread_starts}
use Rattle.predictions.specs.Starts.{case_from, count_of}
use Rattle.predictions.specs.Units.Scales.{TraceScale}
use Rattle.predictions.specs.declared.agreement.counts.AnswerCounts.{AnswerCounts}
use Rattle.predictions.specs.declared.agreement.verdicts.Agreement.{Agreement}
use Rattle.predictions.specs.declared.course.Course.{Course}
use Rattle.predictions.specs.declared.course.Manner.{Manner}
use Rattle.predictions.specs.declared.units.limits.Limits.{Limits}
use Rattle.predictions.specs.declared.verdict.Verdict.{Verdict}
use Rattle.predictions.specs.declared.verdict.Verdict.TheVariants as verdicts

-- whether a plan that comes to this stops by a tick, and then converges, and then keeps its limit
abbrev pub stops_by : ℕ → Course → Bool
stops_by last_tick course = nat_le course.stop last_tick

abbrev pub converges_by : ℕ → Course → Bool
converges_by last_tick course = stops_by last_tick course && converges course.ending

abbrev pub keeps_by : TraceScale → Limits → ℕ → Course → Bool
keeps_by scale limits last_tick course = stops_by last_tick course && keeps_limit scale limits course

-- how many plans come to these, how many of them stop by the last tick, converge, and keep their limit
abbrev pub counts_of : TraceScale → Limits → ℕ → List Course → AnswerCounts
counts_of scale limits last_tick courses = record {
  whole = length courses;
  known = count_by (stops_by last_tick) courses;
  converging = count_by (converges_by last_tick) courses;
  kept = count_by (keeps_by scale limits last_tick) courses;
}

-- the counts of the plans of the first `count` draws, by a manner
pub record AreCountsOf (manner : Manner) (pages : ℕ) (touches : List GuestTouch) (s : MigrationSettings)
    (scale : TraceScale) (limits : Limits) (count : ℕ) (counts : AnswerCounts) : Type 0 where
  pub courses : List Course
  pub redrawn : AreRedrawn manner touches scale s (draws_of scale.sampled pages count) courses
  pub counts_are : counts ≡ counts_of scale limits (last_tick_of touches) courses

-- nine tenths of a link: fewer pages go over it in the time of the limit
abbrev pub nine_tenths : ℕ → ℕ
nine_tenths rate = max 1 (rate * 9 / 10)

abbrev pub with_less_link : MigrationSettings → MigrationSettings
with_less_link s = record s {
  min = min s.min (nine_tenths s.max);
  max = nine_tenths s.max;
  threshold = max 1 (s.threshold * nine_tenths s.max / s.max);
}

-- What is asked of draws: whether the answer holds, and if a hypervisor's plan converges, whether it does with a tenth
-- less of the link. The lists of a sample are short. Near the link at which a guest's lists just keep their length
-- chance makes them waver, and the plan ends the first time that one fits. Draws waver about the sample, not the guest.
abbrev pub asked_of_draws : Course → MigrationSettings → MigrationSettings
asked_of_draws course s = if is_bounded course.ending then with_less_link s else s

-- the counts of 20 draws, of which that is asked
pub record AreAskedCounts (manner : Manner) (pages : ℕ) (touches : List GuestTouch) (s : MigrationSettings)
    (scale : TraceScale) (limits : Limits) (counts : AnswerCounts) : Type 0 where
  pub course : Course
  pub comes_to : IsCourseOver manner pages touches scale s course
  pub are_counts : AreCountsOf manner pages touches (asked_of_draws course s) scale limits 20 counts

-- these counts, if pages were sampled
abbrev pub AreDrawCounts : Manner → ℕ → List GuestTouch → MigrationSettings → TraceScale → Limits → Option AnswerCounts
    → Type 0
AreDrawCounts manner pages touches s scale limits None = ¬ HasErrors scale
AreDrawCounts manner pages touches s scale limits (Some counts) =
    HasErrors scale × AreAskedCounts manner pages touches s scale limits counts

-- the cases of the starts that are spread over a record, each by its number
abbrev pub spread_case : MigrationSettings → ℕ → ℕ → MigrationSettings
spread_case s last_tick = case_from s (spread_starts s last_tick) last_tick

-- what the plans from the first `count` of these starts come to, by a manner
abbrev pub AreStarted : Manner → ℕ → List GuestTouch → TraceScale → MigrationSettings → ℕ → List Course → Type 0
AreStarted manner pages touches scale s count courses = AllZip (IsCourseOver manner pages touches scale)
    (map (spread_case s (last_tick_of touches)) (range_with_len 0 count)) courses

-- of these, the counts of those that end within the trace: the record allows no other start
abbrev pub of_known : AnswerCounts → AnswerCounts
of_known counts = record counts { whole = counts.known }

-- the counts of the plans from the starts that a record allows, by a manner
pub record AreStartCounts (manner : Manner) (pages : ℕ) (touches : List GuestTouch) (s : MigrationSettings)
    (scale : TraceScale) (limits : Limits) (counts : AnswerCounts) : Type 0 where
  pub courses : List Course
  pub started : AreStarted manner pages touches scale s
      (count_of (spread_starts s (last_tick_of touches)) (last_tick_of touches)) courses
  pub counts_are : counts ≡ of_known (counts_of scale limits (last_tick_of touches) courses)

-- the counts of the draws and of the starts
pub record IsAgreement (manner : Manner) (pages : ℕ) (touches : List GuestTouch) (s : MigrationSettings)
    (scale : TraceScale) (limits : Limits) (a : Agreement) : Type 0 where
  pub draws : AreDrawCounts manner pages touches s scale limits a.draws
  pub starts : AreStartCounts manner pages touches s scale limits a.starts

-- Nearly all of some: 19 of 20. Two standard errors leave out as many.
abbrev pub nearly_all : ℕ → ℕ → Bool
nearly_all part whole = nat_le (19 * whole) (20 * part)

-- how many of the known answers are this one, if so many are yes
abbrev pub count_same : Verdict → ℕ → ℕ → ℕ
count_same verdicts.Yes known so = so
count_same verdicts.No known so = known - so
count_same verdicts.Uncertain known so = 0
count_same verdicts.Unknown known so = 0

-- nearly all of some guests converge or keep the limit as this answer says
abbrev pub converge_as : Verdict → AnswerCounts → Bool
converge_as verdict counts = nearly_all (count_same verdict counts.known counts.converging) counts.whole

abbrev pub keep_as : Verdict → AnswerCounts → Bool
keep_as verdict counts = nearly_all (count_same verdict counts.known counts.kept) counts.whole

-- a test of the draws, if there are any
abbrev pub for_draws : (AnswerCounts → Bool) → Option AnswerCounts → Bool
for_draws test None = true
for_draws test (Some counts) = test counts

-- an answer stands if it is sure; one that is not known stays so
abbrev pub if_sure : Bool → Verdict → Verdict
if_sure sure verdicts.Yes = if sure then verdicts.Yes else verdicts.Uncertain
if_sure sure verdicts.No = if sure then verdicts.No else verdicts.Uncertain
if_sure sure verdicts.Uncertain = verdicts.Uncertain
if_sure sure verdicts.Unknown = verdicts.Unknown

-- whether a migration converges: as its plan does, if nearly all draws and nearly all starts do
abbrev pub sure_verdict : Agreement → GuestPrediction → Verdict
sure_verdict a p =
    if_sure (for_draws (converge_as (verdict_of p)) a.draws && converge_as (verdict_of p) a.starts) (verdict_of p)

-- a limit that the plan keeps is likely to be kept: with two standard errors of the downtime, or by a hypervisor
abbrev pub withstands : ℕ → MigrationCost → Option SampleErrors → Bool
withstands limit cost errors = not cost.is_kept || is_likely limit (record { start = 0; cost = cost; errors = errors })

-- whether it keeps its limit, in the same way; and if its plan does, then likely so
abbrev pub sure_kept : ℕ → Agreement → MigrationCost → Option SampleErrors → Verdict
sure_kept limit a cost errors =
    if_sure ((for_draws (keep_as (kept_of cost)) a.draws && keep_as (kept_of cost) a.starts)
    && withstands limit cost errors) (kept_of cost)
