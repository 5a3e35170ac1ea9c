use Rattle.c_answers.proofs.OneRefusal.{one_plan}
use Rattle.c_answers.proofs.laws.one_refused_plan.Goals as goal

pub returns : goal.returns
returns c = one_plan
