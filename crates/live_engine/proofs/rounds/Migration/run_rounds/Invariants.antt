use Rattle.std.proofs.Common.{◌≡◌, ℕ, drop, take}
use Rattle.migration_model.specs.Live.{LiveRounds}
use Rattle.live_engine.specs.Joining.{AreJoined, HaveCapacity, lanes_of}
use Rattle.live_engine.specs.Lists.{rows_of}
use Rattle.live_engine.specs.Runs.{IsUnderWay}
use Rattle.live_engine.proofs.Planned.{Remaining}
use Rattle.live_engine.proofs.rounds.Migration.run_rounds.Given as goal

abbrev pub invariant-loop-number : goal.invariant-loop-number
invariant-loop-number g l = record {
  under_way : IsUnderWay (g.W.WriteLog.trace l.self.trace.now) l.self.team l.progress.closed l.progress.states.items;
  lanes : lanes_of (rows_of l.progress.states.items) ≡ lanes_of (rows_of l.fn.states.items);
  law : (lane : ℕ) → HaveCapacity lane (lanes_of (rows_of l.fn.states.items))
      → LiveRounds (g.W.WriteLog.trace l.self.trace.now) l.self.settings.now.base l.self.settings.now.skip
      l.self.team.copiers lane (take l.number l.self.plan.now.rounds) l.progress.rounds.items;
  joined : (tick : ℕ) × Remaining (g.W.WriteLog.trace l.self.trace.now) l.self.settings.now l.self.plan.now tick
      (drop l.number l.self.plan.now.rounds)
      × AreJoined (g.W.WriteLog.trace l.self.trace.now) l.self.settings.now.base l.self.team.copiers tick
      (take l.number l.self.plan.now.rounds) l.progress.rounds.items l.progress.closed
      (rows_of l.progress.states.items);
}
