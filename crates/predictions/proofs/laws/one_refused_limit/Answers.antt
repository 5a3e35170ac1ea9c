use Rattle.predictions.proofs.OneRefusal.{one_limit}
use Rattle.predictions.proofs.laws.one_refused_limit.Goals as goal

pub returns : goal.returns
returns c = one_limit
