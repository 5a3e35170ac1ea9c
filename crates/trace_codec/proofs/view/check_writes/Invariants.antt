use Rattle.trace_codec.specs.Reading.{ReadsTo}
use Rattle.trace_codec.proofs.view.check_writes.Given as goal

abbrev pub invariant-loop-index : goal.invariant-loop-index
invariant-loop-index l = ReadsTo l.header.version l.header.shape.shift l.header.shape.pages l.index l.bytes l.last
    l.rest
