-- What a plan comes to, by the plan of a hypervisor or by Clark's. This project's own.
pub mod Ends
use Rattle.std.specs.Prelude.{◌≡◌, ℕ, ◌+◌, max, min, nat_lt, List, Some}
use Rattle.look_planner.specs.Sums.{AreSums}
use Rattle.look_planner.specs.declared.sums.LookSums.{LookSums}
use Rattle.migration_model.specs.Looks.{HypervisorSettings}
use Rattle.migration_model.specs.Rates.{MigrationSettings}
use Rattle.migration_model.specs.Sweeps.{IsOutcome, PlanOutcome}
use Rattle.migration_model.specs.Touches.{GuestTouch, last_tick_of}
use Rattle.predictions.specs.Courses.Ends.{converges, course_of_looks, course_of_rounds}
use Rattle.predictions.specs.Looks.{look_settings}
use Rattle.predictions.specs.Predictions.{answer}
use Rattle.predictions.specs.Units.Scales.{TraceScale}
use Rattle.predictions.specs.declared.course.Course.{Course}
use Rattle.predictions.specs.declared.course.Manner.{Manner}
use Rattle.predictions.specs.declared.course.Manner.TheVariants as manners
use Rattle.predictions.specs.declared.verdict.Verdict.{Verdict}

-- The record of a plan of looks ends with the last tick, or with the start if that comes later. It is no longer than a
-- plan of rounds may be.
abbrev pub record_end : ℕ → ℕ → ℕ
record_end start last_tick = max start (min last_tick (start + 4_194_303_999))

-- the settings of a hypervisor that gives up after 2,000 looks
abbrev pub course_settings : TraceScale → MigrationSettings → ℕ → HypervisorSettings
course_settings scale s last_tick =
    record (look_settings scale s (record_end s.start last_tick)) { looks = Some 2_000 }

-- what the plan of a guest of `pages` pages with these touches comes to, over a record with this last tick
abbrev pub IsCourse : Manner → ℕ → List GuestTouch → TraceScale → MigrationSettings → ℕ → Course → Type 0
IsCourse manners.Looks pages touches scale s last_tick course = (sums : LookSums)
    × AreSums pages touches (course_settings scale s last_tick) sums × (course ≡ course_of_looks sums)
IsCourse manners.Rounds pages touches scale s last_tick course =
    (outcome : PlanOutcome) × IsOutcome pages touches s outcome × (course ≡ course_of_rounds outcome)

-- what it comes to over the record of these touches
abbrev pub IsCourseOver : Manner → ℕ → List GuestTouch → TraceScale → MigrationSettings → Course → Type 0
IsCourseOver manner pages touches scale s course = IsCourse manner pages touches scale s (last_tick_of touches) course

-- whether a migration converges by its course, over a record with this last tick
abbrev pub course_verdict : Course → ℕ → Verdict
course_verdict course last_tick = answer (nat_lt last_tick course.stop) (converges course.ending)
