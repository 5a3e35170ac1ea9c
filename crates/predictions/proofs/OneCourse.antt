-- What the plan of a guest comes to, by a manner, is determined.
use Rattle.std.proofs.Common.{◌≡◌, ◌∙◌, ℕ, List, sym, ap}
use Rattle.look_planner.proofs.OneSum.{one_set_of_sums}
use Rattle.migration_model.specs.Rates.{MigrationSettings}
use Rattle.migration_model.specs.Touches.{GuestTouch}
use Rattle.predictions.specs.Courses.{IsCourse, course_settings}
use Rattle.predictions.specs.Courses.Ends.{course_of_looks, course_of_rounds}
use Rattle.predictions.specs.Units.Scales.{TraceScale}
use Rattle.predictions.specs.declared.course.Course.{Course}
use Rattle.predictions.specs.declared.course.Manner.{Manner}
use Rattle.predictions.specs.declared.course.Manner.TheVariants.{Looks, Rounds}
use Rattle.predictions.proofs.Outcomes.{one_outcome}

pub one_course_lem : (manner : Manner) (pages last_tick : ℕ) (touches : List GuestTouch) (scale : TraceScale)
    (s : MigrationSettings) (a b : Course) → IsCourse manner pages touches scale s last_tick a
    → IsCourse manner pages touches scale s last_tick b → a ≡ b
one_course_lem Looks pages last_tick touches scale s a b x y =
    x.2 ∙ ap course_of_looks (one_set_of_sums pages touches (course_settings scale s last_tick) x.0 y.0 x.1 y.1)
    ∙ sym y.2
one_course_lem Rounds pages last_tick touches scale s a b x y =
    x.2 ∙ ap course_of_rounds (one_outcome pages touches s x.0 y.0 x.1 y.1) ∙ sym y.2
