use Rattle.std.proofs.Common.{◌∙◌}
use Rattle.page_versions.proofs.Places.{places_of_index}
use Rattle.page_versions.proofs.index.PageIndex.places.Goals as goal

pub returns-clause-of_trace : goal.returns-clause-of_trace
returns-clause-of_trace c = λ trace is. c.part.ensures ∙ places_of_index c.args.self.now trace c.args.page is
