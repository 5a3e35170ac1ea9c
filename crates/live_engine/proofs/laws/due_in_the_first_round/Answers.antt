use Rattle.live_engine.proofs.FirstDue.{all_due, written_due}
use Rattle.live_engine.proofs.laws.due_in_the_first_round.Goals as goal

pub returns-clause-cold : goal.returns-clause-cold
returns-clause-cold c = all_due

pub returns-clause-warm : goal.returns-clause-warm
returns-clause-warm c = written_due
