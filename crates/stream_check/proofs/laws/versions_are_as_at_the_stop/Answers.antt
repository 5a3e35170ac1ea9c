use Rattle.stream_check.proofs.Cut.{at_version}
use Rattle.stream_check.proofs.laws.versions_are_as_at_the_stop.Goals as goal

pub returns : goal.returns
returns c = at_version
