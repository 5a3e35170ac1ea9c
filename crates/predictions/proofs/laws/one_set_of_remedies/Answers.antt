use Rattle.predictions.proofs.OneRemedy.{one_remedies}
use Rattle.predictions.proofs.laws.one_set_of_remedies.Goals as goal

pub returns : goal.returns
returns c = one_remedies
