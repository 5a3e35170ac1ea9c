use Rattle.std.proofs.Common.{◌≡◌, ◌+◌, ◌*◌, ◌/◌, ◌<◌, ◌∙◌, ℕ, List, [], not, true, ap, subst, sym}
use Rattle.std.proofs.Common.{arith, length, take, get_or}
use Rattle.std.proofs.lemmas.List.{take_all, get_or_default, get_or-take, get_or-set_other, length-set, length-take-le}
use Rattle.migration_model.specs.Rounds.{IsSent}
use Rattle.migration_model.specs.Touches.{is_written}
use Rattle.round_planner.proofs.Counted.{one_at_most, stored}
use Rattle.round_planner.proofs.PageLists.{list_low, list_few, list_rises}
use Rattle.round_planner.proofs.Skims.{skim, skim_more, skim_is_sent}
use Rattle.round_planner.proofs.scan.skim.Goals as goal

pub look-walk-requires-clause-page : goal.look-walk-requires-clause-page
look-walk-requires-clause-page g c =
    let room = c.args.room.now in
    let n = c.args.now.now.listed in
    let i = c.loop-index.index in
    let inside : i < n = omega (arith, c.loop-index-test.true) in
    let len = length-take-le n room c.requires.listed in
    let read = c.loop-index.invariant.rest i (omega arith) ∙ sym (get_or-take n room i 0 inside) in
    omega (arith, read, list_low _ _ c.requires.pages i 0 (omega (arith, len, inside)))

pub look-walk-requires-clause-few : goal.look-walk-requires-clause-few
look-walk-requires-clause-few g c =
    let len = length-take-le c.args.now.now.listed c.args.room.now c.requires.listed in
    omega (arith, c.loop-index.invariant.short, c.loop-index-test.true, len, list_few _ _ c.requires.pages)

pub loop-index-preserved : goal.loop-index-preserved
loop-index-preserved g c =
    let before = c.loop-index.invariant in
    let looked = c.look-walk.ensures in
    let touches = g.T.Timeline.touches c.args.timeline.now in
    let step = c.args.now.now.step in
    let n = c.args.now.now.listed in
    let old = c.args.room.now in
    let room = c.loop-index.room in
    let i = c.loop-index.index in
    let page = get_or room i 0 in
    let pace = c.new-pace.ensures in
    let at = c.loop-index.walk.at in
    let new = c.look-walk.result.at.sent in
    let pages = take n old in
    let inside : i < n = omega (arith, c.loop-index-test.true) in
    let len = length-take-le n old c.requires.listed in
    let low : at.sent < length room = omega (arith, before.short, before.room_len, inside, c.requires.listed) in
    let read : page ≡ get_or pages i page = before.rest i (omega arith) ∙ sym (get_or-take n old i 0 inside)
    ∙ get_or_default pages i 0 page (omega (arith, len, inside)) in
    let count : length (take at.sent room) ≡ at.sent = length-take-le at.sent room (omega (arith, low)) in
    let tick : at.tick ≡ step.from + 1_000 * at.sent / step.rate = before.at.tick_is
    ∙ (λ k. pace.from k + 1_000 * at.sent / pace.rate k) in
    let sent = rw (pace.from) at looked.sent in
    let mark = is_written touches step.from at.tick page in
    let kept = stored (not mark) room at.sent new page low sent in
    record {
      scan = rw (pace.from) at looked.scan;
      at = looked.at;
      sent_is = skim_more touches step.from step.rate i page pages (take at.sent room) _ mark
          (omega (arith, len, inside)) read before.sent_is
          (ap (λ t. is_written touches step.from t page) (tick ∙ (λ j. step.from + 1_000 * (sym count) j / step.rate)))
          kept;
      short = omega (arith, before.short, one_at_most _ at.sent new sent);
      room_len = length-set room at.sent page ∙ before.room_len;
      rest = λ k high. get_or-set_other room at.sent k page 0 (λ same. omega (arith, same, high, before.short))
          ∙ before.rest k (omega (arith, high));
    }

pub returns-clause-sent : goal.returns-clause-sent
returns-clause-sent g c =
    let touches = g.T.Timeline.touches c.args.timeline.now in
    let step = c.args.now.now.step in
    let pages = take c.args.now.now.listed c.args.room.now in
    let len = length-take-le c.args.now.now.listed c.args.room.now c.requires.listed in
    let found : take c.loop-index.walk.at.sent c.loop-index.room ≡ skim touches step.from step.rate [] pages =
    c.loop-index.invariant.sent_is ∙ ap (λ (l : List ℕ). skim touches step.from step.rate [] l)
    (take_all c.loop-index.index pages (omega (arith, len, c.loop-index-test.false))) in
    subst (λ (l : List ℕ). IsSent true touches step.from step.rate pages l) (sym found)
    (skim_is_sent touches step.from step.rate pages (list_rises _ pages c.requires.pages))
