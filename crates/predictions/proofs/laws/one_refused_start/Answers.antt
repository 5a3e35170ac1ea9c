use Rattle.predictions.proofs.OneStart.{one_start}
use Rattle.predictions.proofs.laws.one_refused_start.Goals as goal

pub returns : goal.returns
returns c = one_start
