use Rattle.std.proofs.Common.{ℕ, List, ltb, ap, ◌∙◌}
use Rattle.std.specs.List.{filter}
use Rattle.page_versions.proofs.Places.{places_of_index, places_rise}
use Rattle.page_versions.proofs.index.PageIndex.writes_after.Goals as goal

pub places_after-requires : goal.places_after-requires
places_after-requires c = rw c.part.ensures (places_rise c.args.self.now.touches c.args.page)

pub returns-clause-own : goal.returns-clause-own
returns-clause-own c = c.places_after.ensures ∙ ap (λ (l : List ℕ). filter (λ (v : ℕ). ltb c.args.version v) l)
    c.part.ensures

pub returns-clause-of_trace : goal.returns-clause-of_trace
returns-clause-of_trace c = λ trace is.
    c.places_after.ensures ∙ ap (λ (l : List ℕ). filter (λ (v : ℕ). ltb c.args.version v) l)
    (c.part.ensures ∙ places_of_index c.args.self.now trace c.args.page is)
