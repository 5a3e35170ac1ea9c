-- A hypervisor's migration has one forecast, or none.
use Rattle.std.proofs.Common.{◌≡◌, ◌∙◌, ℕ, List, Option, Some, None, ap, sym, refl, arith}
use Rattle.look_planner.specs.Plans.{numbers_of}
use Rattle.look_planner.proofs.OnePlan.{one_look_plan_lem}
use Rattle.migration_model.specs.Looks.{HypervisorPlan}
use Rattle.migration_model.specs.Rates.{MigrationSettings}
use Rattle.migration_model.specs.Touches.{GuestTouch, last_tick_of}
use Rattle.predictions.specs.Looks.{IsForecast, LookForecast, forecast_of, look_settings}
use Rattle.predictions.specs.Units.Scales.{TraceScale}
use Rattle.predictions.specs.declared.units.limits.Limits.{Limits}

pub one_forecast_lem : (pages : ℕ) (touches : List GuestTouch) (scale : TraceScale) (limits : Limits)
    (s : MigrationSettings) (a b : Option LookForecast) → IsForecast pages touches scale limits s a
    → IsForecast pages touches scale limits s b → a ≡ b
one_forecast_lem pages touches scale limits s None None x y = refl
one_forecast_lem pages touches scale limits s None (Some b) x y = absurd (omega (arith, x, y.started))
one_forecast_lem pages touches scale limits s (Some a) None x y = absurd (omega (arith, x.started, y))
one_forecast_lem pages touches scale limits s (Some a) (Some b) x y =
    let plan : x.plan ≡ y.plan =
    one_look_plan_lem pages touches (look_settings scale s (last_tick_of touches)) x.plan y.plan x.is_plan y.is_plan in
    ap Some (x.is
    ∙ ap (λ (p : HypervisorPlan). forecast_of scale limits s.start (numbers_of pages touches p)) plan ∙ sym y.is)
