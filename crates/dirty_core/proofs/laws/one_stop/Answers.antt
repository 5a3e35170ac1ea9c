use Rattle.dirty_core.proofs.OneStep.{one_index_lem, one_stop_lem, never_stops_lem}
use Rattle.dirty_core.proofs.laws.one_stop.Goals as goal

pub returns-clause-index : goal.returns-clause-index
returns-clause-index c = one_index_lem

pub returns-clause-refusal : goal.returns-clause-refusal
returns-clause-refusal c = one_stop_lem

pub returns-clause-legal : goal.returns-clause-legal
returns-clause-legal c = never_stops_lem
