use Rattle.look_planner.proofs.OneSum.{one_set_of_sums}
use Rattle.look_planner.proofs.laws.one_set_of_sums.Goals as goal

pub returns : goal.returns
returns c = one_set_of_sums
