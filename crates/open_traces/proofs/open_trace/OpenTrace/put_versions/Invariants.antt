use Rattle.open_traces.proofs.PageWalks.{ArePutTo}
use Rattle.open_traces.proofs.open_trace.OpenTrace.put_versions.Given as goal

abbrev pub invariant-loop-place : goal.invariant-loop-place
invariant-loop-place l = ArePutTo l.self l.place l.versions
