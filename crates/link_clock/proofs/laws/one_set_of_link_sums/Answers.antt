use Rattle.link_clock.proofs.OneLinkSum.{one_set_of_link_sums_lem}
use Rattle.link_clock.proofs.laws.one_set_of_link_sums.Goals as goal

pub returns : goal.returns
returns c = one_set_of_link_sums_lem
