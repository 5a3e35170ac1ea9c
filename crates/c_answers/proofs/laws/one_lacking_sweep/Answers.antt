use Rattle.c_answers.proofs.OneRefusal.{one_sweep}
use Rattle.c_answers.proofs.laws.one_lacking_sweep.Goals as goal

pub returns : goal.returns
returns c = one_sweep
