use Rattle.std.proofs.Common.{◌≡◌, ◌+◌, ◌<◌, ◌∙◌, ap, sym, subst, arith, length, get_or}
use Rattle.std.proofs.lemmas.List.{length_push, length-set, get_or_default}
use Rattle.migration_model.specs.Touches.{GuestTouch, no_touch}
use Rattle.round_planner.specs.Indexing.{IsLast}
use Rattle.round_planner.proofs.Columns.{last_more, push_more}
use Rattle.round_planner.proofs.index.RoundIndex.build.Goals as goal

pub loop-number-preserved : goal.loop-number-preserved
loop-number-preserved g c =
    let touches = g.T.Timeline.touches c.args.timeline.now in
    let pages = g.T.Timeline.pages c.args.timeline.now in
    let before = c.loop-number.invariant in
    let n = c.loop-number.number in
    let p = c.page.inside.page in
    let at = get_or touches n no_touch in
    let inside : n < length touches = omega (arith, c.touch_count-count.ensures.count) in
    let page_is : p ≡ at.page = ap (λ (t : GuestTouch). t.page) (c.page.view_is ∙ c.touch.ensures) in
    let low : p < pages = omega (arith, page_is, (c.touch_count-count.ensures.fits.each n no_touch inside).page) in
    let last = c.loop-number.last.items in
    let read : c.index.result.now ≡ get_or last p 0 = c.index.ensures
    ∙ get_or_default last p c.index.result.now 0 (omega (arith, low, before.last_len)) in
    let here : IsLast touches n at.page c.index.result.now =
    subst (λ x. IsLast touches n at.page x) (sym read) (subst (λ q. IsLast touches n q (get_or last p 0)) page_is
    (before.last p low)) in
    record {
      earlier_len = omega (
        arith,
        ap length c.in_ok-push.ensures.items,
        length_push c.loop-number.earlier.items c.index.result.now,
        before.earlier_len,
      );
      last_len = omega (arith, length-set last p (n + 1), before.last_len);
      earlier = push_more (λ i x. IsLast touches i (get_or touches i no_touch).page x) c.loop-number.earlier.items _ n
          c.index.result.now before.earlier_len c.in_ok-push.ensures.items before.earlier here;
      last = λ page high. last_more touches n pages p page last inside before.last_len page_is before.last high;
    }
