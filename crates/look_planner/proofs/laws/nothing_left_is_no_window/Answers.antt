use Rattle.look_planner.proofs.Windows.{nothing_left_lem}
use Rattle.look_planner.proofs.laws.nothing_left_is_no_window.Goals as goal

pub returns : goal.returns
returns c = nothing_left_lem
