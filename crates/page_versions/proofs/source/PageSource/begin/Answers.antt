use Rattle.std.proofs.Common.{rules, ◌≡◌, ◌^◌, replicate, sym, ◌∙◌}
use Rattle.migration_model.proofs.Pages.{zero_page}
use Rattle.page_versions.proofs.Places.{places_rise}
use Rattle.page_versions.proofs.source.PageSource.begin.Goals as goal

pub count_to-count-requires : goal.count_to-count-requires
count_to-count-requires g c =
    rw c.places.ensures.own (places_rise c.self.inside.index.now.touches c.args.page)

pub returns-clause-bytes : goal.returns-clause-bytes
returns-clause-bytes g c =
    let trace = c.args.self.now in
    let zeros : c.resize.new.self.items ≡ replicate (2 ^ trace.shift) 0 = search rules in
    zeros ∙ sym (zero_page trace.shift trace.pages c.args.page c.requires.page)
