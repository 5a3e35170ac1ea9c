use Rattle.c_answers.proofs.OneRefusal.{one_flat}
use Rattle.c_answers.proofs.laws.one_refused_memory.Goals as goal

pub returns : goal.returns
returns c = one_flat
