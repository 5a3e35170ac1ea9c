use Rattle.std.proofs.Common.{ℕ, ◌<◌}
use Rattle.stream_check.specs.Ends.{IsCurrent}
use Rattle.stream_check.proofs.checker.StreamChecker.finish.Given as goal

abbrev pub invariant-loop-page : goal.invariant-loop-page
invariant-loop-page g l = (page : ℕ) → page < l.page
    → IsCurrent (g.W.WriteLog.trace l.trace) l.self.stop l.self.greatest page
