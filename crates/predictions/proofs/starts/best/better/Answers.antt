use Rattle.std.proofs.Common.{◌≡◌, ◌∙◌, ℕ, false, ap, subst, sym}
use Rattle.migration_model.specs.Touches.{last_tick_of}
use Rattle.predictions.proofs.BestStarts.{passed_by, passed_plain}
use Rattle.predictions.specs.Starts.Choices.{beats_any}
use Rattle.predictions.specs.Starts.Costs.{CostAtStart, cost_at_start}
use Rattle.predictions.proofs.starts.best.better.Goals as goal

pub returns-else-is_better_than-clause-passed : goal.returns-else-is_better_than-clause-passed
returns-else-is_better_than-clause-passed g c =
    λ _. passed_by c.args.measure.now.manner (g.T.Timeline.pages c.args.timeline.now) (g.T.Timeline.touches c.args.timeline.now)
    c.args.measure.now.scale c.args.measure.now.limits c.args.case.now c.args.best.now c.in_ok-at.at c.in_ok-at.ensures
    (sym c.is_better_than-2.ensures ∙ c.if-is_better_than.false)

pub returns-then-not-is_better_than-clause-passed : goal.returns-then-not-is_better_than-clause-passed
returns-then-not-is_better_than-clause-passed g c =
    let last = last_tick_of (g.T.Timeline.touches c.args.timeline.now) in
    let scale = c.args.measure.now.scale in
    let limits = c.args.measure.now.limits in
    let is = c.start_cost-plain.ensures ∙ ap (λ (n : ℕ). cost_at_start scale limits n c.args.case.now)
    c.last_tick.ensures.value in
    λ _. passed_plain c.args.measure.now.manner (g.T.Timeline.pages c.args.timeline.now)
    (g.T.Timeline.touches c.args.timeline.now) scale limits c.args.case.now c.args.best.now
    (subst (λ (at : CostAtStart). beats_any limits.downtime at c.args.best.now ≡ false) is
    (sym c.is_better_than.ensures ∙ c.if-not-is_better_than.true))
