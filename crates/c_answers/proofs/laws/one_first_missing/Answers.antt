use Rattle.c_answers.proofs.OneFlat.{one_missing}
use Rattle.c_answers.proofs.laws.one_first_missing.Goals as goal

pub returns : goal.returns
returns c = one_missing
