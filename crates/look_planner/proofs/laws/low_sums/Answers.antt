use Rattle.look_planner.proofs.Bounds.{low_sums_lem}
use Rattle.look_planner.proofs.laws.low_sums.Goals as goal

pub returns : goal.returns
returns c = low_sums_lem
