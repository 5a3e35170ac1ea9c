use Rattle.browser_planner.proofs.OneRefusal.{one_plan}
use Rattle.browser_planner.proofs.laws.one_refused_plan.Goals as goal

pub returns : goal.returns
returns c = one_plan
