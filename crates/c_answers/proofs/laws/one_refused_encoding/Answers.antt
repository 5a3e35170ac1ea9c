use Rattle.c_answers.proofs.OneRefusal.{one_encoding}
use Rattle.c_answers.proofs.laws.one_refused_encoding.Goals as goal

pub returns : goal.returns
returns c = one_encoding
