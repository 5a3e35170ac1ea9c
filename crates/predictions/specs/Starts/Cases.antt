-- Cases, and what their plans come to. This project's own.
use Rattle.std.specs.Prelude.{◌≡◌, ℕ, List}
use Rattle.std.specs.List.{AllZip}
use Rattle.migration_model.specs.Rates.{MigrationSettings}
use Rattle.migration_model.specs.Sweeps.{SweepLine}
use Rattle.migration_model.specs.Touches.{GuestTouch}
use Rattle.predictions.specs.Courses.{IsCourseOver}
use Rattle.predictions.specs.Courses.Ends.{course_of_rounds}
use Rattle.predictions.specs.Units.Scales.{TraceScale}
use Rattle.predictions.specs.declared.course.Manner.{Manner}
use Rattle.predictions.specs.declared.starts.planned.PlannedCase.{PlannedCase}

-- the case of a line of a sweep, which has the sums of Clark's plan
abbrev pub case_of_line : SweepLine → PlannedCase
case_of_line line = record { settings = line.settings; course = course_of_rounds line.outcome }

-- a case of some settings, and what their plan comes to, by a manner
pub record IsCaseOf (manner : Manner) (pages : ℕ) (touches : List GuestTouch) (scale : TraceScale)
    (s : MigrationSettings) (case : PlannedCase) : Type 0 where
  pub settings_are : case.settings ≡ s
  pub is_course : IsCourseOver manner pages touches scale s case.course

-- a case for each of the settings, in order, each planned by itself
abbrev pub AreCases : Manner → ℕ → List GuestTouch → TraceScale → List MigrationSettings → List PlannedCase → Type 0
AreCases manner pages touches scale settings cases = AllZip (IsCaseOf manner pages touches scale) settings cases
