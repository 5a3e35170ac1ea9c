use Rattle.live_tasks.specs.Copies.{IsReady, KeepsScan}
use Rattle.live_tasks.specs.Scans.{HoldsFrom}
use Rattle.live_tasks.proofs.copier.SharedRound.copy_bits.Given as goal

abbrev pub invariant-loop-bit : goal.invariant-loop-bit
invariant-loop-bit g l = record {
  ready : IsReady (g.W.WriteLog.trace l.self.trace.now) l.self.table.now l.copier.seat l.copier.state;
  scan : KeepsScan (g.W.WriteLog.trace l.self.trace.now) l.self.skip l.fn.copier.seat.facts l.fn.copier.state
      l.copier.seat.facts l.copier.state;
  holds : HoldsFrom l.word l.bits l.bit l.copier.seat.facts;
}
