use Rattle.std.proofs.Common.{◌≡◌, ◌-◌, leb, ltb, length, take, drop, sym, ap, ◌∙◌, arith}
use Rattle.std.specs.List.{filter}
use Rattle.std.proofs.lemmas.Slice.{between_to_end}
use Rattle.page_versions.proofs.Searches.{after_is, count_on, filter_back, filter_front}
use Rattle.page_versions.proofs.searching.places_between.Goals as goal

pub returns-clause-places : goal.returns-clause-places
returns-clause-places c =
    let places = c.args.places.now in
    let start = c.count_near-start.result in
    let rest = take (length places - start) (drop start places) in
    let behind : rest ≡ filter (λ v. ltb c.args.from v) places =
    between_to_end places start (length places) (omega arith)
    ∙ sym (filter_back (λ v. leb v c.args.from) (λ v. ltb c.args.from v) places start (λ v. after_is c.args.from v)
    c.count_near-start.ensures.0 c.count_near-start.ensures.1) in
    sym (filter_front (λ v. leb v c.args.to) rest c.count_few-more.result c.count_few-more.ensures.0
    c.count_few-more.ensures.1)
    ∙ ap (filter (λ v. leb v c.args.to)) behind

pub returns-clause-count : goal.returns-clause-count
returns-clause-count c =
    let places = c.args.places.now in
    let start = c.count_near-start.result in
    let behind = between_to_end places start (length places) (omega arith) in
    count_on places c.args.from c.args.to start c.count_few-more.result c.requires.later c.count_near-start.ensures
    (rw behind at c.count_few-more.ensures)
