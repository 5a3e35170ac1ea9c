use Rattle.link_clock.proofs.Clocks.{clock_stays}
use Rattle.link_clock.proofs.laws.clock_of_one_rate.Goals as goal

pub returns : goal.returns
returns c = clock_stays
