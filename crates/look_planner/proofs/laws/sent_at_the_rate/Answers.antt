use Rattle.look_planner.proofs.Kept.{sent_at_the_rate_lem}
use Rattle.look_planner.proofs.laws.sent_at_the_rate.Goals as goal

pub returns : goal.returns
returns c = sent_at_the_rate_lem
