-- What the plan of a trace predicts, by the plan of a hypervisor or by Clark's. This project's own.
use Rattle.std.specs.Prelude.{◌≡◌, ℕ, List}
use Rattle.look_planner.specs.Sums.{AreSums}
use Rattle.look_planner.specs.declared.sums.LookSums.{LookSums}
use Rattle.migration_model.specs.Rates.{MigrationSettings}
use Rattle.migration_model.specs.Rounds.{IsPlan, MigrationPlan}
use Rattle.migration_model.specs.Touches.{GuestTouch, last_tick_of}
use Rattle.predictions.specs.Courses.{IsCourseOver, course_settings}
use Rattle.predictions.specs.Courses.Ends.{course_of_looks}
use Rattle.predictions.specs.Predictions.{GuestPrediction, prediction_by, prediction_of}
use Rattle.predictions.specs.Units.Scales.{TraceScale}
use Rattle.predictions.specs.declared.course.Manner.{Manner}
use Rattle.predictions.specs.declared.course.Manner.TheVariants as manners
use Rattle.predictions.specs.declared.prediction.Foretold.{Foretold}
use Rattle.predictions.specs.declared.units.limits.Limits.{Limits}

-- what a hypervisor's plan with these sums predicts, over touches with this last tick
abbrev pub prediction_of_sums : TraceScale → Limits → ℕ → LookSums → ℕ → GuestPrediction
prediction_of_sums scale limits start sums last_tick =
    prediction_by manners.Looks scale limits start (course_of_looks sums) sums.left last_tick

-- what the plan of a guest of `pages` pages with these touches predicts
abbrev pub IsPrediction : Manner → ℕ → List GuestTouch → TraceScale → Limits → MigrationSettings → GuestPrediction
    → Type 0
IsPrediction manners.Looks pages touches scale limits s p = (sums : LookSums)
    × AreSums pages touches (course_settings scale s (last_tick_of touches)) sums
    × (p ≡ prediction_of_sums scale limits s.start sums (last_tick_of touches))
IsPrediction manners.Rounds pages touches scale limits s p = (plan : MigrationPlan) × IsPlan pages touches s plan
    × (p ≡ prediction_of scale limits s.start plan (last_tick_of touches))

-- what the plan of a guest of `pages` pages with these touches comes to, and what it predicts
pub record IsForetold (manner : Manner) (pages : ℕ) (touches : List GuestTouch) (scale : TraceScale) (limits : Limits)
    (s : MigrationSettings) (foretold : Foretold) : Type 0 where
  pub comes_to : IsCourseOver manner pages touches scale s foretold.course
  pub predicts : IsPrediction manner pages touches scale limits s foretold.prediction
