use Rattle.stream_receivers.proofs.FinalJoin.{final_joined}
use Rattle.stream_receivers.proofs.laws.final_copy_is_a_join.Goals as goal

pub returns : goal.returns
returns c = final_joined
