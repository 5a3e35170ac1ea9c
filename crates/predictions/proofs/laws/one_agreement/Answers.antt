use Rattle.predictions.proofs.OneCount.{one_agreement}
use Rattle.predictions.proofs.laws.one_agreement.Goals as goal

pub returns : goal.returns
returns c = one_agreement
