use Rattle.trace_codec.proofs.Made.{Tested}
use Rattle.trace_codec.proofs.building.check_records.Given as goal

abbrev pub invariant-loop-index : goal.invariant-loop-index
invariant-loop-index l = Tested l.header.version l.header.shape.shift l.header.shape.pages l.index l.writes l.last
