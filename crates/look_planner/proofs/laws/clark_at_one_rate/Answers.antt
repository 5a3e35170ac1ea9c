use Rattle.look_planner.proofs.Clark.{clark_lem}
use Rattle.look_planner.proofs.laws.clark_at_one_rate.Goals as goal

pub returns : goal.returns
returns c = clark_lem
