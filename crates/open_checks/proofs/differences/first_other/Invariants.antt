use Rattle.std.proofs.Common.{◌≡◌, ◌<◌, ℕ, get_or}
use Rattle.open_checks.proofs.differences.first_other.Given as goal

abbrev pub invariant-loop-index : goal.invariant-loop-index
invariant-loop-index l = (before : ℕ) → before < l.index → get_or l.some before 0 ≡ get_or l.others before 0
