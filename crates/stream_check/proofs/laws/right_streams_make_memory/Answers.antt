use Rattle.stream_check.proofs.Left.{greatest_left, last_left}
use Rattle.stream_check.proofs.laws.right_streams_make_memory.Goals as goal

pub returns-clause-greatest : goal.returns-clause-greatest
returns-clause-greatest c = greatest_left

pub returns-clause-last : goal.returns-clause-last
returns-clause-last c = last_left
