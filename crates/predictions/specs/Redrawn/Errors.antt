-- How far chance moves a plan of sampled pages: standard errors, by the plans of 20 draws. A standard error is the root
-- of the sum of the squared deviations from the mean, over 19, and of the share of the guest's pages that were not
-- sampled, since these were drawn without replacement. See Efron and Tibshirani, "An Introduction to the Bootstrap"
-- (1993), chapter 6, and Cochran, "Sampling Techniques", section 2.6.
use Rattle.std.specs.Prelude.{◌≡◌, ℕ, ◌+◌, ◌-◌, ◌*◌, ◌<◌, ◌≤◌, List, length, map, Option, Some, None}
use Rattle.std.specs.List.{AllZip, sum, sum_by}
use Rattle.predictions.specs.Units.Scales.{TraceScale, micros_of}
use Rattle.migration_model.specs.Rates.{MigrationSettings}
use Rattle.migration_model.specs.Touches.{GuestTouch, last_tick_of}
use Rattle.predictions.specs.Courses.{IsCourse}
use Rattle.predictions.specs.Redrawn.Draws.{draws_of}
use Rattle.predictions.specs.declared.course.Course.{Course}
use Rattle.predictions.specs.declared.course.Manner.{Manner}
use Rattle.look_planner.specs.DrawnPages.{redrawn_touches}

-- n numbers' sum of squared deviations from their mean, times n
abbrev pub spread_of : List ℕ → ℕ
spread_of numbers = length numbers * sum_by (λ x. x * x) numbers - sum numbers * sum numbers

abbrev pub weight_of : List ℕ → ℕ
weight_of numbers = length numbers * (length numbers - 1)

-- the root of the numbers' variance times a fraction, rounded up
pub record IsErrorOf (numbers : List ℕ) (upper lower error : ℕ) : Type 0 where
  pub enough : spread_of numbers * upper ≤ error * error * (weight_of numbers * lower)
  pub least : (k : ℕ) → spread_of numbers * upper ≤ k * k * (weight_of numbers * lower) → error ≤ k

-- what the plan of a guest comes to that consists of drawn pages, over the record of all, and that of each draw
abbrev pub IsRedrawn : Manner → List GuestTouch → TraceScale → MigrationSettings → List ℕ → Course → Type 0
IsRedrawn manner touches scale s drawn course =
    IsCourse manner (length drawn) (redrawn_touches drawn touches) scale s (last_tick_of touches) course

abbrev pub AreRedrawn : Manner → List GuestTouch → TraceScale → MigrationSettings → List (List ℕ) → List Course → Type 0
AreRedrawn manner touches scale s draws courses = AllZip (IsRedrawn manner touches scale s) draws courses

-- How long a migration takes and how long the guest does not run, in microseconds, but for what is reserved: that is
-- the same for each plan.
abbrev pub time_of : TraceScale → MigrationSettings → Course → ℕ
time_of scale s course = micros_of scale (course.stop - s.start + course.down)

abbrev pub pause_of : TraceScale → Course → ℕ
pause_of scale course = micros_of scale course.down

-- standard errors: of the bytes of the guest that are sent, and of the time and the downtime in microseconds
pub record SampleErrors : Type 0 where
  pub bytes : ℕ
  pub time : ℕ
  pub downtime : ℕ

-- the standard errors of the plan of a trace, by a manner; that of the bytes is in whole pages of the guest
pub record AreErrorsOf (manner : Manner) (pages : ℕ) (touches : List GuestTouch)
    (s : MigrationSettings) (scale : TraceScale) (errors : SampleErrors) : Type 0 where
  pub courses : List Course
  pub redrawn : AreRedrawn manner touches scale s (draws_of scale.sampled pages 20) courses
  pub sent : ℕ
  pub sent_is : IsErrorOf (map (λ course. course.total) courses) ((scale.guest - scale.sampled) * scale.guest)
      (scale.sampled * scale.sampled) sent
  pub bytes_is : errors.bytes ≡ sent * scale.page
  pub time_is : IsErrorOf (map (time_of scale s) courses) (scale.guest - scale.sampled) scale.guest errors.time
  pub downtime_is : IsErrorOf (map (pause_of scale) courses) (scale.guest - scale.sampled) scale.guest errors.downtime

-- Standard errors are given if a part of the guest's pages was sampled, of two pages or more. A trace has no more than
-- 65,536 pages, and so has a sample.
abbrev pub HasErrors : TraceScale → Type 0
HasErrors scale = (2 ≤ scale.sampled) × (scale.sampled < scale.guest) × (scale.sampled ≤ 65_536)

-- the standard errors, if they are given
abbrev pub AreErrors : Manner → ℕ → List GuestTouch → MigrationSettings → TraceScale → Option SampleErrors → Type 0
AreErrors manner pages touches s scale None = ¬ HasErrors scale
AreErrors manner pages touches s scale (Some errors) = HasErrors scale × AreErrorsOf manner pages touches s scale errors
