use Rattle.std.proofs.Common.{ℕ, List, leb, max, ap, ◌∙◌}
use Rattle.std.specs.List.{filter, fold}
use Rattle.page_versions.proofs.Places.{places_of_index, places_rise}
use Rattle.page_versions.proofs.index.PageIndex.version_after.Goals as goal

pub greatest_to-requires : goal.greatest_to-requires
greatest_to-requires c = rw c.part.ensures (places_rise c.args.self.now.touches c.args.page)

pub returns-clause-own : goal.returns-clause-own
returns-clause-own c = c.greatest_to.ensures
    ∙ ap (λ (l : List ℕ). fold max 0 (filter (λ (v : ℕ). leb v c.args.count) l)) c.part.ensures

pub returns-clause-of_trace : goal.returns-clause-of_trace
returns-clause-of_trace c = λ trace is.
    c.greatest_to.ensures
    ∙ ap (λ (l : List ℕ). fold max 0 (filter (λ (v : ℕ). leb v c.args.count) l))
    (c.part.ensures ∙ places_of_index c.args.self.now trace c.args.page is)
