use Rattle.std.proofs.Common.{ℕ, List, ltb, max, sym, ap, ◌∙◌}
use Rattle.std.specs.List.{fold}
use Rattle.page_versions.specs.Layout.{tick_at}
use Rattle.page_versions.proofs.Searches.{filter_front}
use Rattle.page_versions.proofs.searching.greatest_before.Goals as goal

pub returns : goal.returns
returns c =
    c.greatest.ensures ∙ ap (λ (l : List ℕ). fold max 0 l) (sym
    (filter_front (λ v. ltb (tick_at c.args.touches.now v) c.args.tick) c.args.places.now
    c.count_before-count.result c.count_before-count.ensures.bound c.count_before-count.ensures.point))
