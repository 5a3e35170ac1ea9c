use Rattle.open_traces.proofs.RecordPlaces.{ArePut}
use Rattle.open_traces.proofs.records.put_records.Given as goal

abbrev pub invariant-loop-write : goal.invariant-loop-write
invariant-loop-write l = ArePut l.trace.writes l.count l.begin l.write-iterator l.begins l.pages
