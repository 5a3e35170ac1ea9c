use Rattle.std.proofs.Common.{◌≡◌, ◌++◌}
use Rattle.trace_codec.proofs.view.TraceView.to_trace.Given as goal

abbrev pub invariant-loop-record : goal.invariant-loop-record
invariant-loop-record l = l.writes.items ++ l.record-iterator ≡ l.fn.self.writes
