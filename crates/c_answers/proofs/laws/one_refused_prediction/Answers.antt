use Rattle.c_answers.proofs.OneQuestion.{one_prediction}
use Rattle.c_answers.proofs.laws.one_refused_prediction.Goals as goal

pub returns : goal.returns
returns c = one_prediction
