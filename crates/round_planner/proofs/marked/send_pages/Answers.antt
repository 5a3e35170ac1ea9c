use Rattle.std.proofs.Common.{◌≡◌, ◌≤◌, ◌∙◌, ◌&&◌, ℕ, List, length, take, true, false, leb, refl, sym, ap, subst, arith}
use Rattle.std.proofs.lemmas.List.{length-take-le}
use Rattle.migration_model.specs.Rounds.{IsSent}
use Rattle.round_planner.specs.Scanning.{IsPageList}
use Rattle.page_bitmap.proofs.Listed.{few_pages}
use Rattle.round_planner.proofs.Skims.{all_is_sent}
use Rattle.round_planner.proofs.Outcomes.{skips_later}
use Rattle.round_planner.proofs.marked.send_pages.Goals as goal

pub returns-then-not-may_skip-clause-sent : goal.returns-then-not-may_skip-clause-sent
returns-then-not-may_skip-clause-sent g c coming is =
    let at = is.at in
    let touches = g.T.Timeline.touches c.args.timeline.now in
    let s = c.args.settings.now in
    let plain : (s.skip && leb 1 coming.done) ≡ false = ap (λ n. s.skip && leb 1 n) (sym at.done_is)
    ∙ sym c.may_skip.ensures ∙ c.if-not-may_skip.true in
    record {
      list = coming.pages;
      is_sent = subst (λ b. IsSent b touches coming.from coming.rate coming.pages coming.pages) (sym plain)
          (all_is_sent touches coming.from coming.rate coming.pages coming.pages refl);
      count_is = at.listed_is;
      within = record {
        tick = coming.from;
        high = omega arith;
        scan = is.scan;
      };
    }

pub returns-then-not-may_skip-clause-list : goal.returns-then-not-may_skip-clause-list
returns-then-not-may_skip-clause-list g c coming is listed =
    let at = is.at in
    let touches = g.T.Timeline.touches c.args.timeline.now in
    let s = c.args.settings.now in
    let plain : (s.skip && leb 1 coming.done) ≡ false = ap (λ n. s.skip && leb 1 n) (sym at.done_is)
    ∙ sym c.may_skip.ensures ∙ c.if-not-may_skip.true in
    subst (λ b. IsSent b touches coming.from coming.rate coming.pages (take c.args.now.now.listed c.args.room.now))
    (sym plain) (all_is_sent touches coming.from coming.rate coming.pages _ (sym listed))

pub skim-walk-requires-clause-listed : goal.skim-walk-requires-clause-listed
skim-walk-requires-clause-listed g c =
    let is = c.requires.marks.is in
    let list = is.at.can.list in
    let few = few_pages list.test 0 (g.T.Timeline.pages c.args.timeline.now) in
    let len = ap (λ (l : List ℕ). length l) list.list_is in
    omega (arith, is.at.listed_is, few, len, is.room_len)

pub skim-walk-requires-clause-pages : goal.skim-walk-requires-clause-pages
skim-walk-requires-clause-pages g c =
    let is = c.requires.marks.is in
    let skips : (c.args.settings.now.skip && leb 1 c.args.now.now.step.done) ≡ true = sym c.may_skip.ensures
    ∙ c.if-not-may_skip.false in
    let later : 1 ≤ c.requires.marks.coming.done = omega (
      arith,
      skips_later c.args.settings.now.skip c.args.now.now.step.done skips,
      is.at.done_is,
    ) in
    subst (λ (l : List ℕ). IsPageList (g.T.Timeline.pages c.args.timeline.now) l) (is.list later) is.at.can.list

-- what is sent of a round whose pages are listed
pub returns-clause-list : goal.returns-clause-list
returns-clause-list g c coming is listed =
    let at = is.at in
    let touches = g.T.Timeline.touches c.args.timeline.now in
    let s = c.args.settings.now in
    let skips : (s.skip && leb 1 c.args.now.now.step.done) ≡ true = sym c.may_skip.ensures ∙ c.if-not-may_skip.false in
    let later : (s.skip && leb 1 coming.done) ≡ true = ap (λ n. s.skip && leb 1 n) (sym at.done_is) ∙ skips in
    let sent = take c.skim-walk.result.at.sent c.skim-walk.new.room in
    subst (λ b. IsSent b touches coming.from coming.rate coming.pages sent) (sym later)
    (rw (at.from_is, at.rate_is, sym listed) at c.skim-walk.ensures.sent)

pub returns-clause-sent : goal.returns-clause-sent
returns-clause-sent g c coming is =
    let at = is.at in
    let skips : (c.args.settings.now.skip && leb 1 c.args.now.now.step.done) ≡ true = sym c.may_skip.ensures
    ∙ c.if-not-may_skip.false in
    let done : 1 ≤ coming.done = omega (
      arith,
      skips_later c.args.settings.now.skip c.args.now.now.step.done skips,
      at.done_is,
    ) in
    let pages = at.can.list in
    let all = few_pages pages.test 0 (g.T.Timeline.pages c.args.timeline.now) in
    let len = ap (λ (l : List ℕ). length l) pages.list_is in
    let few : c.skim-walk.result.at.sent ≤ length c.skim-walk.new.room =
    omega (arith, at.listed_is, all, len, is.room_len, c.skim-walk.ensures.count, c.skim-walk.ensures.room) in
    record {
      list = take c.skim-walk.result.at.sent c.skim-walk.new.room;
      is_sent = returns-clause-list g c coming is (is.list done);
      count_is = sym (length-take-le c.skim-walk.result.at.sent c.skim-walk.new.room few);
      within = rw (at.from_is, at.rate_is) at c.skim-walk.ensures.scan;
    }
