-- Migrations that are tried, and what may be changed of one. To slow the guest is what QEMU's auto-converge does; that
-- its writes then keep their order, and each tick only lasts longer, is this project's own.
use Rattle.std.specs.Prelude.{◌≡◌, ℕ, ◌*◌, ◌/◌, ◌^◌, ◌<◌, ◌≤◌, true, List, Option, None}
use Rattle.predictions.specs.Units.Limits.{limits_refusal, settings_in}
use Rattle.predictions.specs.Units.Scales.{TraceScale, scale_refusal}
use Rattle.predictions.specs.declared.units.limits.Limits.{Limits}
use Rattle.predictions.specs.declared.remedies.aim.Aim.{Aim}
use Rattle.predictions.specs.declared.remedies.aim.Aim.TheVariants as aims
use Rattle.predictions.specs.declared.remedies.change.Change.{Change}
use Rattle.predictions.specs.declared.remedies.change.Change.TheVariants as changes
use Rattle.migration_model.specs.Rates.{AreSettings, MigrationSettings}
use Rattle.migration_model.specs.Touches.{GuestTouch, last_tick_of}
use Rattle.predictions.specs.Courses.{IsCourseOver}
use Rattle.predictions.specs.Courses.Ends.{converges}
use Rattle.predictions.specs.Predictions.{MigrationCost, cost_of, kept_of}
use Rattle.predictions.specs.declared.course.Course.{Course}
use Rattle.predictions.specs.declared.course.Manner.{Manner}
use Rattle.predictions.specs.declared.verdict.Verdict.TheVariants as verdicts

-- a migration that is tried: limits over a trace of some scale, the increment if it is given, other settings, and by
-- whose plan it goes
pub record MigrationTrial : Type 0 where
  pub scale : TraceScale
  pub limits : Limits
  pub increment : Option ℕ
  pub others : MigrationSettings
  pub manner : Manner

-- the settings that its limits make, beside the others
abbrev pub settings_of : MigrationTrial → MigrationSettings
settings_of trial = settings_in trial.scale trial.limits trial.increment trial.others

-- the limits of a trial make settings
pub record MakesSettings (trial : MigrationTrial) : Type 0 where
  pub accepted : limits_refusal trial.scale trial.limits ≡ None
  pub in_range : AreSettings (settings_of trial)

-- what the plan of these settings comes to
abbrev pub IsTrialCourse : ℕ → List GuestTouch → MigrationTrial → Course → Type 0
IsTrialCourse pages touches trial course =
    IsCourseOver trial.manner pages touches trial.scale (settings_of trial) course

-- what a trial costs whose plan comes to this, over touches with this last tick
abbrev pub trial_cost : MigrationTrial → Course → ℕ → MigrationCost
trial_cost trial course last_tick = cost_of trial.scale trial.limits trial.others.start course last_tick

-- a trial whose plan comes to this ends with few pages left, within the trace and within the downtime
pub record EndsWell (trial : MigrationTrial) (course : Course) (last_tick : ℕ) : Type 0 where
  pub few : converges course.ending ≡ true
  pub kept : kept_of (trial_cost trial course last_tick) ≡ verdicts.Yes

-- a trial whose plan comes to this comes to what is aimed at: it ends well, or at least within the trace
abbrev pub ComesTo : Aim → MigrationTrial → Course → ℕ → Type 0
ComesTo aims.Limit trial course last_tick = EndsWell trial course last_tick
ComesTo aims.End trial course last_tick = course.stop ≤ last_tick

-- a trial reaches an aim: its limits make settings, and the plan of these comes to it
pub record Reaches (aim : Aim) (pages : ℕ) (touches : List GuestTouch) (trial : MigrationTrial) : Type 0 where
  pub makes : MakesSettings trial
  pub course : Course
  pub is_course : IsTrialCourse pages touches trial course
  pub comes : ComesTo aim trial course (last_tick_of touches)

-- a trial keeps its limit
abbrev pub KeepsLimit : ℕ → List GuestTouch → MigrationTrial → Type 0
KeepsLimit = Reaches aims.Limit

-- a trial ends within the trace
abbrev pub EndsWithin : ℕ → List GuestTouch → MigrationTrial → Type 0
EndsWithin = Reaches aims.End

-- a trial with another amount: of the link in Kbit a second, of the downtime in microseconds, of the guest's speed in
-- per cent (a tick of a slower guest lasts longer), or with another tick at which it begins
abbrev pub changed : MigrationTrial → Change → ℕ → MigrationTrial
changed trial changes.Link kbit = record trial { limits = record trial.limits { link = kbit * 125 } }
changed trial changes.Downtime micros = record trial { limits = record trial.limits { downtime = micros } }
changed trial changes.Speed percent =
    record trial { scale = record trial.scale { tick = trial.scale.tick * 100 / percent } }
changed trial changes.Start tick = record trial { others = record trial.others { start = tick } }

-- there is such a trial: its link fits 64 bits, and its scale is accepted
abbrev pub CanChange : MigrationTrial → Change → ℕ → Type 0
CanChange trial changes.Link kbit = kbit * 125 < 2 ^ 64
CanChange trial changes.Downtime micros = micros < 2 ^ 64
CanChange trial changes.Speed percent = scale_refusal (changed trial changes.Speed percent).scale ≡ None
CanChange trial changes.Start tick = tick < 2 ^ 64

-- an aim is reached with another amount
pub record ReachesWith (aim : Aim) (pages : ℕ) (touches : List GuestTouch) (trial : MigrationTrial) (change : Change)
    (amount : ℕ) : Type 0 where
  pub can : CanChange trial change amount
  pub reaches : Reaches aim pages touches (changed trial change amount)

-- the limit is kept with another amount
abbrev pub KeepsWith : ℕ → List GuestTouch → MigrationTrial → Change → ℕ → Type 0
KeepsWith = ReachesWith aims.Limit

-- the migration ends within the trace with another amount
abbrev pub EndsWith : ℕ → List GuestTouch → MigrationTrial → Change → ℕ → Type 0
EndsWith = ReachesWith aims.End
