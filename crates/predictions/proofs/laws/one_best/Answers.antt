use Rattle.predictions.proofs.BestStarts.{one_best_of}
use Rattle.predictions.proofs.laws.one_best.Goals as goal

pub returns : goal.returns
returns c = one_best_of
