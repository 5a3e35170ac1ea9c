use Rattle.predictions.proofs.OneRefusal.{one_refusal}
use Rattle.predictions.proofs.laws.one_refused_question.Goals as goal

pub returns : goal.returns
returns c = one_refusal
