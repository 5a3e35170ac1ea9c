use Rattle.collector.proofs.FirstRefused.{one_index, one_cause, one_part, none_refused}
use Rattle.collector.proofs.laws.one_refused_frame.Goals as goal

pub returns-clause-index : goal.returns-clause-index
returns-clause-index c = one_index

pub returns-clause-cause : goal.returns-clause-cause
returns-clause-cause c = one_cause

pub returns-clause-part : goal.returns-clause-part
returns-clause-part c = one_part

pub returns-clause-none : goal.returns-clause-none
returns-clause-none c = none_refused
