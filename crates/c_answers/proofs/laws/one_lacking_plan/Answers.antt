use Rattle.c_answers.proofs.OneRefusal.{one_open_plan}
use Rattle.c_answers.proofs.laws.one_lacking_plan.Goals as goal

pub returns : goal.returns
returns c = one_open_plan
