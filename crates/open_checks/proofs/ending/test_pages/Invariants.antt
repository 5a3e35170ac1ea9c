use Rattle.std.proofs.Common.{ℕ, ◌<◌}
use Rattle.stream_check.specs.Ends.{IsCurrent}
use Rattle.open_checks.specs.Kept.{stamps_in}
use Rattle.open_checks.proofs.ending.test_pages.Given as goal

abbrev pub invariant-loop-page : goal.invariant-loop-page
invariant-loop-page l = (page : ℕ) → page < l.page → IsCurrent l.trace l.stop (stamps_in l.greatest) page
