use Rattle.std.proofs.Common.{leb, ltb, length, sym, ◌∙◌, arith}
use Rattle.std.proofs.lemmas.Slice.{between_to_end}
use Rattle.page_versions.proofs.Searches.{filter_back, after_is}
use Rattle.page_versions.proofs.searching.places_after.Goals as goal

pub returns : goal.returns
returns c =
    between_to_end c.args.places.now c.count_to-count.result (length c.args.places.now) (omega arith)
    ∙ sym (filter_back (λ v. leb v c.args.version) (λ v. ltb c.args.version v) c.args.places.now c.count_to-count.result
    (λ v. after_is c.args.version v) c.count_to-count.ensures.0 c.count_to-count.ensures.1)
