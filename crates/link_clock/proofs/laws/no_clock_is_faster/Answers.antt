use Rattle.link_clock.proofs.Changes.{sound}
use Rattle.link_clock.proofs.Clocks.{clock_early, clock_later}
use Rattle.link_clock.proofs.laws.no_clock_is_faster.Goals as goal

pub returns-clause-early : goal.returns-clause-early
returns-clause-early c = λ link tick is. clock_early link (sound link is) tick

pub returns-clause-later : goal.returns-clause-later
returns-clause-later c = λ link tick later is. clock_later link (sound link is) tick later
