use Rattle.round_planner.proofs.Plans.{one_plan_lem}
use Rattle.round_planner.proofs.laws.one_plan.Goals as goal

pub returns : goal.returns
returns c = one_plan_lem
