use Rattle.predictions.proofs.OneAnswer.{one_answer_lem}
use Rattle.predictions.proofs.laws.one_answer.Goals as goal

pub returns : goal.returns
returns c = one_answer_lem
