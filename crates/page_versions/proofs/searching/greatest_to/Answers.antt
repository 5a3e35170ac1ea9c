use Rattle.std.proofs.Common.{ℕ, List, leb, max, sym, ap, ◌∙◌}
use Rattle.std.specs.List.{fold}
use Rattle.page_versions.proofs.Searches.{filter_front}
use Rattle.page_versions.proofs.searching.greatest_to.Goals as goal

pub returns : goal.returns
returns c =
    c.greatest.ensures ∙ ap (λ (l : List ℕ). fold max 0 l) (sym
    (filter_front (λ v. leb v c.args.version) c.args.places.now c.count_to-count.result c.count_to-count.ensures.0
    c.count_to-count.ensures.1))
