use Rattle.std.proofs.Common.{◌≡◌, ℕ, subst}
use Rattle.report_pictures.specs.Axes.{IsStep}
use Rattle.report_pictures.proofs.Rounds.{five_is_step, next_reached, twice_is_step, unit_is_step}
use Rattle.report_pictures.proofs.axis.Axis.step.Goals as goal

-- the span that the code computes is the axis' span
stepped : {span asked step : ℕ} → span ≡ asked → IsStep span step → IsStep asked step
stepped {step} same is = subst (λ n. IsStep n step) same is

pub loop-unit-preserved : goal.loop-unit-preserved
loop-unit-preserved c = next_reached _ _ c.loop-unit.invariant c.loop-unit-test.true

pub returns-then-span-unit-le-MOST_LABELS-clause-step :
    goal.returns-then-span-unit-le-MOST_LABELS-clause-step
returns-then-span-unit-le-MOST_LABELS-clause-step c = stepped c.saturating_sub-span.ensures
    (unit_is_step _ _ c.loop-unit.invariant c.if-span-unit-le-MOST_LABELS.true)

pub returns-then-span-unit-le-MOST_LABELS-2-clause-step :
    goal.returns-then-span-unit-le-MOST_LABELS-2-clause-step
returns-then-span-unit-le-MOST_LABELS-2-clause-step c = stepped c.saturating_sub-span.ensures
    (twice_is_step _ _ c.loop-unit.invariant c.if-span-unit-le-MOST_LABELS.false c.if-span-unit-le-MOST_LABELS-2.true)

pub returns-else-span-unit-le-MOST_LABELS-2-clause-step :
    goal.returns-else-span-unit-le-MOST_LABELS-2-clause-step
returns-else-span-unit-le-MOST_LABELS-2-clause-step c = stepped c.saturating_sub-span.ensures
    (five_is_step _ _ c.loop-unit.invariant c.if-span-unit-le-MOST_LABELS-2.false c.loop-unit-test.false)
