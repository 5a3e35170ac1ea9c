use Rattle.std.proofs.Common.{◌≡◌, ℕ, ◌+◌, ◌-◌, leb, ltb, length, take, drop, sym, ap, ◌∙◌, arith}
use Rattle.std.specs.List.{filter}
use Rattle.std.proofs.lemmas.Slice.{between_to_end}
use Rattle.page_versions.proofs.Searches.{after_is, filter_back, filter_front}
use Rattle.page_versions.proofs.Copied.{rises_drop}
use Rattle.page_versions.proofs.source.run_between.Goals as goal

pub count_to-requires : goal.count_to-requires
count_to-requires c =
    let places = c.args.places.now in
    let start = c.count_to-start.result in
    rw (between_to_end places start (length places) (omega arith)) (rises_drop start places c.requires)

pub returns-clause-run : goal.returns-clause-run
returns-clause-run c =
    let places = c.args.places.now in
    let start = c.count_to-start.result in
    let more = c.count_to.result in
    let rest = take (length places - start) (drop start places) in
    let whole : rest ≡ drop start places = between_to_end places start (length places) (omega arith) in
    let cut : start + more - start ≡ more = omega arith in
    let behind = filter_back (λ v. leb v c.args.from) (λ v. ltb c.args.from v) places start
    (λ v. after_is c.args.from v)
    c.count_to-start.ensures.bound c.count_to-start.ensures.point in
    ap (λ (n : ℕ). take n (drop start places)) cut
    ∙ ap (take more) (sym whole)
    ∙ sym (filter_front (λ v. leb v c.args.to) rest more c.count_to.ensures.bound c.count_to.ensures.point)
    ∙ ap (filter (λ v. leb v c.args.to)) (whole ∙ sym behind)
