use Rattle.std.proofs.Common.{◌-◌, ◌+◌, ◌/◌, [], ◌∷◌, ◌++◌, length, map, ap, arith, sym, ◌∙◌}
use Rattle.std.proofs.lemmas.List.{length-map}
use Rattle.migration_model.specs.Touches.{touch_of}
use Rattle.page_versions.proofs.Pages.{places_fit}
use Rattle.page_versions.proofs.Places.{places_few}
use Rattle.page_versions.specs.Copies.{copies_of, copy_of}
use Rattle.page_versions.proofs.Joined.{copies_joined, copies_more}
use Rattle.page_versions.proofs.packed.+copied+fn-copied-high+fn-copied-low.Goals as goal

pub page_of-requires-clause-few : goal.page_of-requires-clause-few
page_of-requires-clause-few g t c =
    let trace = g.W.WriteLog.trace c.args.trace.now in
    omega (
      arith,
      ap length c.places.ensures.own,
      places_few c.args.index.now.touches c.loop-page.page,
      ap length c.requires.index.1,
      length-map trace.writes touch_of,
    )

pub page_of-requires-clause-places : goal.page_of-requires-clause-places
page_of-requires-clause-places g t c =
    rw c.places.ensures.own
    (places_fit (g.W.WriteLog.trace c.args.trace.now) c.args.index.now c.loop-page.page c.requires.index)

pub loop-page-preserved : goal.loop-page-preserved
loop-page-preserved g t c =
    let trace = g.W.WriteLog.trace c.args.trace.now in
    let page = c.loop-page.page in
    let from = c.args.from in
    let own = c.in_ok-page_of.ensures ∙ ap (map (copy_of trace)) (c.places.ensures.of_trace trace c.requires.index) in
    c.in_ok-push.ensures.items ∙ ap (λ pages. pages ++ c.in_ok-page_of.field-0 ∷ []) c.loop-page.invariant
    ∙ ap (λ writes. copies_of trace from (page - from) ++ writes ∷ []) own
    ∙ sym (copies_more trace from page (omega (arith, c.loop-page.auto.page)))

pub returns : goal.returns
returns g t c =
    let trace = g.W.WriteLog.trace c.args.trace.now in
    let from = c.args.from in
    let to = c.args.to in
    let middle = from + (to - from) / 2 in
    let low = rw c.in_ok-pages-2.was at c.join-low.ensures.first in
    let high = rw c.in_ok-high.was at c.join-low.ensures.second in
    c.in_ok-append.ensures.items ∙ ap (λ pages. pages ++ c.in_ok-high.field-0.items) low
    ∙ ap (λ pages. copies_of trace from (middle - from) ++ pages) high
    ∙ copies_joined trace from middle to (omega arith) (omega (arith, c.requires.order))
