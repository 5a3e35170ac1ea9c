use Rattle.c_answers.proofs.OneRefusal.{one_decoding}
use Rattle.c_answers.proofs.laws.one_refused_decoding.Goals as goal

pub returns : goal.returns
returns c = one_decoding
