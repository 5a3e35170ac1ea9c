use Rattle.std.proofs.Common.{ℕ, length, get_or, ◌-◌, ◌<◌, ◌≤◌}
use Rattle.page_versions.proofs.searching.count_few.Given as goal

abbrev pub invariant-loop-count : goal.invariant-loop-count
invariant-loop-count l = record {
  bound : l.count ≤ length l.places;
  low : (k d : ℕ) → k < l.count → get_or l.places k d ≤ l.version;
}

abbrev pub decreases-loop-count : goal.decreases-loop-count
decreases-loop-count l = length l.places - l.count
