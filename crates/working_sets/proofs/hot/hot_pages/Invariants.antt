use Rattle.std.proofs.Common.{◌≡◌}
use Rattle.std.specs.Prelude.{nat_le, slice_index_or}
use Rattle.std.specs.List.{filter, range_with_len}
use Rattle.working_sets.specs.Counting.{unseen}
use Rattle.working_sets.proofs.hot.hot_pages.Given as goal

abbrev pub invariant-loop-page : goal.invariant-loop-page
invariant-loop-page l = l.pages.items ≡ filter (λ page. nat_le l.hot (slice_index_or l.marks page unseen).windows)
    (range_with_len 0 l.page)
