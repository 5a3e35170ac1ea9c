use Rattle.std.proofs.Common.{◌≡◌, ◌∙◌, ◌+◌, refl, sym, ap, subst, arith}
use Rattle.migration_model.specs.Rounds.{IsSent}
use Rattle.migration_model.specs.Touches.{no_touch, pages_written}
use Rattle.round_planner.specs.Indexing.{IsPoint}
use Rattle.round_planner.proofs.Columns.{pages_counted, points_rise}
use Rattle.round_planner.proofs.Plans.{ran, round_of}
use Rattle.round_planner.proofs.Skims.{all_is_sent}
use Rattle.round_planner.proofs.tally.counted_round.Goals as goal

pub first_touches-dirtied-requires-clause-few : goal.first_touches-dirtied-requires-clause-few
first_touches-dirtied-requires-clause-few g c = omega (arith, c.requires.index.earlier_len, c.requires.index.fits.few)

pub first_touches-dirtied-requires-clause-order : goal.first_touches-dirtied-requires-clause-order
first_touches-dirtied-requires-clause-order g c =
    let at = c.requires.now.at in
    points_rise (g.T.Timeline.touches c.args.timeline.now) c.requires.now.coming.from
    (c.args.now.now.step.from + c.duration.result) c.args.now.now.next c.before-next.result
    (omega (arith, at.from_is)) at.bound at.point c.before-next.ensures.point

pub returns : goal.returns
returns g c coming at plain =
    let pages = g.T.Timeline.pages c.args.timeline.now in
    let touches = g.T.Timeline.touches c.args.timeline.now in
    let s = c.args._settings.now in
    let index = c.requires.index in
    let ticks = c.duration.result in
    let to = coming.from + ticks in
    let to_is : c.args.now.now.step.from + ticks ≡ to = ap (λ a. a + ticks) at.from_is in
    let point : IsPoint touches to c.before-next.result = subst (λ t. IsPoint touches t c.before-next.result) to_is
    c.before-next.ensures.point in
    let sent = subst (λ b. IsSent b touches coming.from coming.rate coming.pages coming.pages) (sym plain)
    (all_is_sent touches coming.from coming.rate coming.pages coming.pages refl) in
    let order = points_rise touches coming.from to c.args.now.now.next c.before-next.result (omega arith) at.bound
    at.point point in
    record {
      round = round_of pages touches coming coming.pages ticks;
      dirtied = pages_written pages touches coming.from to;
      run = ran pages touches s coming coming.pages c.args.now.now.listed c.args.now.now.step.rate ticks at.can sent
          at.listed_is at.rate_is c.duration.ensures.value c.duration.ensures.enough c.duration.ensures.least;
      to_is = to_is;
      sent_is = at.listed_is;
      dirtied_is = c.first_touches-dirtied.ensures ∙ sym (pages_counted pages touches c.args.index.now.earlier
          coming.from to c.args.now.now.next c.before-next.result index.earlier_len index.earlier
          (λ i low. (index.fits.each i no_touch low).page) at.point point order c.before-next.ensures.bound);
      bound = c.before-next.ensures.bound;
      point = point;
    }
