use Rattle.std.proofs.Common.{◌≡◌}
use Rattle.memory_rows.proofs.rows.cache.ask.Given as goal

abbrev pub invariant-loop-page : goal.invariant-loop-page
invariant-loop-page l = l.cache.trace ≡ l.trace
