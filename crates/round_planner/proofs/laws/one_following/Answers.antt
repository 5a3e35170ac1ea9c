use Rattle.round_planner.proofs.Followers.{one_following_lem}
use Rattle.round_planner.proofs.laws.one_following.Goals as goal

pub returns : goal.returns
returns c = one_following_lem
