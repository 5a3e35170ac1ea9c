use Rattle.std.proofs.Common.{◌≡◌, ◌∙◌, ◌&&◌, true, false, leb, refl, sym, ap, subst, arith}
use Rattle.migration_model.specs.Rounds.{IsSent}
use Rattle.look_planner.specs.DrawnPages.{redrawn_touches}
use Rattle.predictions.specs.Redrawn.Rounds.{CountsSent}
use Rattle.round_planner.proofs.Skims.{all_is_sent}
use Rattle.predictions.proofs.redrawn.plans.send_pages.Goals as goal

pub returns-then-not-may_skip : goal.returns-then-not-may_skip
returns-then-not-may_skip g c coming at =
    let drawn = c.args.drawn.now in
    let all = redrawn_touches drawn (g.T.Timeline.touches c.args.timeline.now) in
    let s = c.args.settings.now in
    let plain : (s.skip && leb 1 coming.done) ≡ false = ap (λ n. s.skip && leb 1 n) (sym at.done_is)
    ∙ sym c.may_skip.ensures ∙ c.if-not-may_skip.true in
    record {
      list = coming.pages;
      is_sent = subst (λ b. IsSent b all coming.from coming.rate coming.pages coming.pages) (sym plain)
          (all_is_sent all coming.from coming.rate coming.pages coming.pages refl);
      count_is = at.listed_is;
      within = record {
        tick = coming.from;
        high = omega arith;
        scan = at.scan;
      };
    }

pub returns : goal.returns
returns g c coming at =
    let drawn = c.args.drawn.now in
    let all = redrawn_touches drawn (g.T.Timeline.touches c.args.timeline.now) in
    let s = c.args.settings.now in
    let later : (s.skip && leb 1 coming.done) ≡ true = ap (λ n. s.skip && leb 1 n) (sym at.done_is)
    ∙ sym c.may_skip.ensures ∙ c.if-not-may_skip.false in
    let has : CountsSent all coming.from coming.rate coming.pages c.count_sent-walk.result.sent =
    rw (at.pages_are) (rw (at.from_is, at.rate_is) at c.count_sent-walk.ensures.sent) in
    record {
      list = has.list;
      is_sent = subst (λ b. IsSent b all coming.from coming.rate coming.pages has.list) (sym later) has.sent;
      count_is = has.count_is;
      within = rw (at.from_is, at.rate_is) at c.count_sent-walk.ensures.scan;
    }
