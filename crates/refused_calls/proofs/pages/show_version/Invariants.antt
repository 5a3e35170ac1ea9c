use Rattle.std.proofs.Common.{◌≡◌}
use Rattle.refused_calls.proofs.pages.show_version.Given as goal

abbrev pub invariant-loop-page : goal.invariant-loop-page
invariant-loop-page g l = l.cache.trace ≡ l.trace
