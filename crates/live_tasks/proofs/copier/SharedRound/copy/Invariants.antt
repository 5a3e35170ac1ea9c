use Rattle.std.proofs.Common.{◌≡◌}
use Rattle.dirty_words.specs.Facts.{HoldsNone}
use Rattle.live_tasks.specs.RoundLogs.{IsPosted}
use Rattle.live_tasks.specs.Scans.{IsScanned}
use Rattle.live_tasks.specs.Copies.{IsReady}
use Rattle.live_tasks.proofs.copier.SharedRound.copy.Given as goal

abbrev pub invariant-loop-word : goal.invariant-loop-word
invariant-loop-word g l = record {
  ready : IsReady (g.W.WriteLog.trace l.self.trace.now) l.self.table.now l.copier.seat l.copier.state;
  number : l.copier.seat.facts.number ≡ l.fn.seat.facts.number;
  held : HoldsNone l.copier.seat.facts;
  scanned : IsScanned l.self.skip l.word l.copier.seat.facts l.copier.state.log;
  posted : IsPosted (g.W.WriteLog.trace l.self.trace.now) l.fn.state.outs l.copier.state.log l.copier.state.outs;
}
