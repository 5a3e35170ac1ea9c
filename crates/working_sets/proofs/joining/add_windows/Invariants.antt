use Rattle.std.proofs.Common.{◌≡◌, ℕ, ◌+◌, ◌<◌, ◌≤◌, length}
use Rattle.std.specs.Prelude.{slice_index_or}
use Rattle.working_sets.specs.Counting.{unseen}
use Rattle.working_sets.proofs.joining.add_windows.Given as goal

abbrev pub invariant-loop-page : goal.invariant-loop-page
invariant-loop-page l = record {
  len : length l.sums ≡ length l.fn.sums;
  done : (page : ℕ) → page < l.page → (slice_index_or l.sums page unseen).windows
      ≡ (slice_index_or l.fn.sums page unseen).windows + (slice_index_or l.marks page unseen).windows;
  left : (page : ℕ) → l.page ≤ page → (slice_index_or l.sums page unseen).windows
      ≡ (slice_index_or l.fn.sums page unseen).windows;
}
