use Rattle.dirty_core.proofs.Outcomes.{done, accepted, refuses, sizes}
use Rattle.dirty_core.proofs.machine.step.Goals as goal

pub returns-clause-done : goal.returns-clause-done
returns-clause-done c = done _ _ _ _ c.happen.ensures

pub returns-clause-accepted : goal.returns-clause-accepted
returns-clause-accepted c = accepted _ _ _ _ c.happen.ensures

pub returns-clause-refused : goal.returns-clause-refused
returns-clause-refused c = refuses _ _ _ _ c.happen.ensures

pub returns-clause-sizes : goal.returns-clause-sizes
returns-clause-sizes c = sizes _ _ _ _ c.happen.ensures
