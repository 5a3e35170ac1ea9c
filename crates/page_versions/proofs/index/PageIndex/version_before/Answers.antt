use Rattle.std.proofs.Common.{◌≡◌, ℕ, List, ltb, max, ap, ◌∙◌}
use Rattle.std.specs.List.{filter, fold}
use Rattle.migration_model.specs.Touches.{GuestTouch}
use Rattle.page_versions.specs.Index.{GuestIndex}
use Rattle.page_versions.specs.Layout.{tick_at}
use Rattle.page_versions.proofs.Places.{places_rise, ticks_rise}
use Rattle.page_versions.proofs.Searches.{version_is}
use Rattle.page_versions.proofs.index.PageIndex.version_before.Goals as goal

pub greatest_before-requires-clause-rising : goal.greatest_before-requires-clause-rising
greatest_before-requires-clause-rising c = rw c.part.ensures (places_rise c.args.self.now.touches c.args.page)

pub greatest_before-requires-clause-order : goal.greatest_before-requires-clause-order
greatest_before-requires-clause-order c =
    let view = ap (λ (i : GuestIndex). i.touches) c.self.view_is in
    let same : c.deref.result.now ≡ c.args.self.now.touches = c.deref.ensures.value ∙ view in
    rw (c.part.ensures, same) (ticks_rise c.self.inside.pages c.args.self.now.touches c.args.page
    (rw view at c.self.invariant.fits))

-- the places are those of the page
own : goal.returns-clause-own
own c =
    let view = ap (λ (i : GuestIndex). i.touches) c.self.view_is in
    let same : c.deref.result.now ≡ c.args.self.now.touches = c.deref.ensures.value ∙ view in
    c.greatest_before.ensures
    ∙ ap (λ (l : List GuestTouch). fold max 0 (filter (λ (v : ℕ). ltb (tick_at l v) c.args.tick) c.part.result.now))
    same
    ∙ ap (λ (l : List ℕ). fold max 0 (filter (λ (v : ℕ). ltb (tick_at c.args.self.now.touches v) c.args.tick) l))
    c.part.ensures

pub returns-clause-own : goal.returns-clause-own
returns-clause-own c = own c

pub returns-clause-of_trace : goal.returns-clause-of_trace
returns-clause-of_trace c = λ trace is. own c ∙ version_is c.args.self.now trace c.args.page c.args.tick is
