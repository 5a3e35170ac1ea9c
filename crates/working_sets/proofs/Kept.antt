-- One more page that is looked at for the hot pages.
use Rattle.std.proofs.Common.{◌≡◌, ℕ, ◌+◌, ◌<◌, cond, leb, List, [], ◌∷◌, ◌++◌, length, get_or, sym, ◌∙◌}
use Rattle.std.specs.List.{filter, range_with_len}
use Rattle.migration_model.proofs.Ranges.{filter_range_more, kept}
use Rattle.working_sets.specs.Counting.{unseen}
use Rattle.working_sets.specs.declared.counting.PageSeen.{PageSeen}

pub hot_more : (marks : List PageSeen) (hot n : ℕ) (old new : List ℕ) → n < length marks
    → old ≡ filter (λ page. leb hot (get_or marks page unseen).windows) (range_with_len 0 n)
    → new ≡ cond (leb hot (get_or marks n unseen).windows) (old ++ n ∷ []) old
    → new ≡ filter (λ page. leb hot (get_or marks page unseen).windows) (range_with_len 0 (n + 1))
hot_more marks hot n old new low old_is new_is =
    new_is ∙ kept (leb hot (get_or marks n unseen).windows) old n
    ∙ (λ i. old_is i ++ cond (leb hot (get_or marks n unseen).windows) (n ∷ []) [])
    ∙ sym (filter_range_more (λ page. leb hot (get_or marks page unseen).windows) n)
