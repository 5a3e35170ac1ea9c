use Rattle.std.proofs.Common.{◌≡◌}
use Rattle.refused_calls.proofs.pages.show_all.Given as goal

abbrev pub invariant-loop-version : goal.invariant-loop-version
invariant-loop-version g l = l.cache.trace ≡ l.trace
