use Rattle.migration_model.proofs.Traces.{one_trace_lem}
use Rattle.migration_model.proofs.one_trace.Goals as goal

pub returns : goal.returns
returns c = one_trace_lem
