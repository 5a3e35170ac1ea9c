use Rattle.std.proofs.Common.{◌≡◌, ◌<◌, ◌≤◌}
use Rattle.dirty_words.specs.Seats.{guest_table}
use Rattle.live_tasks.proofs.Replaying.{IsReplaying}
use Rattle.live_tasks.proofs.replayer.replay.Given as goal

abbrev pub invariant-loop-index : goal.invariant-loop-index
invariant-loop-index g l = record {
  table : guest_table l.seat ≡ l.table;
  within : l.first < l.index → l.index ≤ l.end;
  is : IsReplaying (g.W.WriteLog.trace l.trace) l.table.start l.fn.seat.facts.number l.first l.index l.seat.facts;
}
