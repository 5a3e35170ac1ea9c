use Rattle.predictions.proofs.OnePrediction.{one_prediction_lem}
use Rattle.predictions.proofs.prediction.one_prediction.Goals as goal

pub returns : goal.returns
returns c = one_prediction_lem
