-- What the plan of a guest predicts, by a manner, is determined.
use Rattle.std.proofs.Common.{◌≡◌, ◌∙◌, ℕ, List, sym, ap}
use Rattle.look_planner.proofs.OneSum.{one_set_of_sums}
use Rattle.look_planner.specs.declared.sums.LookSums.{LookSums}
use Rattle.migration_model.specs.Rates.{MigrationSettings}
use Rattle.migration_model.specs.Rounds.{MigrationPlan}
use Rattle.migration_model.specs.Touches.{GuestTouch, last_tick_of}
use Rattle.predictions.specs.Courses.{course_settings}
use Rattle.predictions.specs.Predictions.{GuestPrediction, prediction_of}
use Rattle.predictions.specs.Predictions.Traces.{IsPrediction, prediction_of_sums}
use Rattle.predictions.specs.Units.Scales.{TraceScale}
use Rattle.predictions.specs.declared.course.Manner.{Manner}
use Rattle.predictions.specs.declared.course.Manner.TheVariants.{Looks, Rounds}
use Rattle.predictions.specs.declared.units.limits.Limits.{Limits}
use Rattle.round_planner.proofs.Plans.{one_plan_lem}

pub one_prediction_lem : (manner : Manner) (pages : ℕ) (touches : List GuestTouch) (scale : TraceScale)
    (limits : Limits) (s : MigrationSettings) (a b : GuestPrediction)
    → IsPrediction manner pages touches scale limits s a → IsPrediction manner pages touches scale limits s b → a ≡ b
one_prediction_lem Looks pages touches scale limits s a b x y =
    let last = last_tick_of touches in
    x.2 ∙ ap (λ (sums : LookSums). prediction_of_sums scale limits s.start sums last)
    (one_set_of_sums pages touches (course_settings scale s last) x.0 y.0 x.1 y.1) ∙ sym y.2
one_prediction_lem Rounds pages touches scale limits s a b x y =
    x.2 ∙ ap (λ (plan : MigrationPlan). prediction_of scale limits s.start plan (last_tick_of touches))
    (one_plan_lem pages touches s x.0 y.0 x.1 y.1) ∙ sym y.2
