use Rattle.std.proofs.Common.{leb, sym}
use Rattle.page_versions.proofs.Searches.{filter_front}
use Rattle.page_versions.proofs.searching.places_to.Goals as goal

pub returns : goal.returns
returns c =
    sym (filter_front (λ v. leb v c.args.version) c.args.places.now c.count_to-count.result c.count_to-count.ensures.0
    c.count_to-count.ensures.1)
