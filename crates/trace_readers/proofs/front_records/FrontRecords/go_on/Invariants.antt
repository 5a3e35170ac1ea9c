use Rattle.std.proofs.Common.{◌-◌, ◌≡◌, length}
use Rattle.trace_readers.specs.Texts.{IsTested}
use Rattle.trace_readers.proofs.front_records.FrontRecords.go_on.Given as goal

abbrev pub invariant-loop-self : goal.invariant-loop-self
invariant-loop-self l = record {
  header : l.self.header ≡ l.fn.self.header;
  tested : IsTested l.bytes l.self;
}

abbrev pub decreases-loop-self : goal.decreases-loop-self
decreases-loop-self l = l.self.header.shape.writes - length l.self.positions.items
