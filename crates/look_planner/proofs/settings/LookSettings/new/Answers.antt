use Rattle.std.proofs.Common.{refl, arith}
use Rattle.look_planner.proofs.Ranges.{in_range_lem, refused_lem}
use Rattle.look_planner.proofs.settings.LookSettings.new.Goals as goal

pub returns-in_err-check-clause-in_range : goal.returns-in_err-check-clause-in_range
returns-in_err-check-clause-in_range c = (
  λ ok. grind (arith, ok, c.from_residual.ensures),
  λ are. absurd (refused_lem c.args.asked c.in_err-check.field-0.0 c.in_err-check.ensures.refused are),
)

pub invariant_of-result : goal.invariant_of-result
invariant_of-result c = in_range_lem c.args.asked c.in_ok-check.ensures.accepted

pub returns-clause-in_range : goal.returns-clause-in_range
returns-clause-in_range c = (λ ok. in_range_lem c.args.asked c.in_ok-check.ensures.accepted, λ are. refl)
