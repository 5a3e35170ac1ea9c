use Rattle.predictions.proofs.LinkShares.{one_link_share}
use Rattle.predictions.proofs.laws.one_link_share.Goals as goal

pub returns : goal.returns
returns c = one_link_share
