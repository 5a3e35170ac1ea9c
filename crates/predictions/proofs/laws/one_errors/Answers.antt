use Rattle.predictions.proofs.OneError.{one_errors}
use Rattle.predictions.proofs.laws.one_errors.Goals as goal

pub returns : goal.returns
returns c = one_errors
