-- The result of Clark's plan is determined.
use Rattle.std.proofs.Common.{◌≡◌, ◌∙◌, ℕ, List, sym, ap}
use Rattle.migration_model.specs.Rates.{MigrationSettings}
use Rattle.migration_model.specs.Sweeps.{IsOutcome, PlanOutcome, outcome_of}
use Rattle.migration_model.specs.Touches.{GuestTouch}
use Rattle.round_planner.proofs.Plans.{one_plan_lem}

pub one_outcome : (pages : ℕ) (touches : List GuestTouch) (s : MigrationSettings) (a b : PlanOutcome)
    → IsOutcome pages touches s a → IsOutcome pages touches s b → a ≡ b
one_outcome pages touches s a b x y =
    x.outcome_is ∙ ap outcome_of (one_plan_lem pages touches s x.plan y.plan x.is_plan y.is_plan) ∙ sym y.outcome_is
