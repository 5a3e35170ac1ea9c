use Rattle.look_planner.proofs.Kept.{no_page_is_lost_lem}
use Rattle.look_planner.proofs.laws.no_page_is_lost.Goals as goal

pub returns : goal.returns
returns c = no_page_is_lost_lem
