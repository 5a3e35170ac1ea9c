use Rattle.predictions.proofs.OneStart.{none_refused}
use Rattle.predictions.proofs.laws.accepted_starts_are_not_refused.Goals as goal

pub returns : goal.returns
returns c = none_refused
