use Rattle.look_planner.proofs.OnePlan.{one_look_plan_lem}
use Rattle.look_planner.proofs.laws.one_look_plan.Goals as goal

pub returns : goal.returns
returns c = one_look_plan_lem
