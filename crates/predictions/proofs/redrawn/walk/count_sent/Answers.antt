use Rattle.std.proofs.Common.{ℕ, ◌∙◌, [], ap, arith, get_or, length}
use Rattle.std.specs.List.{filter, range_with_len}
use Rattle.page_bitmap.specs.Pages.{in_words}
use Rattle.look_planner.specs.DrawnPages.{places_in, redrawn_touches}
use Rattle.predictions.proofs.Drawn.{one_at_most, place_more}
use Rattle.round_planner.proofs.Skims.{Rises-pages, skim, skim_is_sent}
use Rattle.predictions.proofs.redrawn.walk.count_sent.Goals as goal

pub loop-page-preserved : goal.loop-page-preserved
loop-page-preserved g c =
    let before = c.loop-page.invariant in
    let looked = c.look-walk.ensures in
    let drawn = c.args.drawn.now in
    record {
      scan = looked.scan;
      sent_is = place_more drawn (g.T.Timeline.touches c.args.timeline.now) c.args.step.from c.args.step.rate
          c.loop-page.page-index c.loop-page.walk.sent c.look-walk.result.sent
          (λ place. in_words c.args.listed.now (get_or drawn place 0)) c.loop-page-test.true before.sent_is looked.sent;
      short = omega (arith, before.short, one_at_most _ c.loop-page.walk.sent c.look-walk.result.sent looked.sent);
    }

pub returns-clause-sent : goal.returns-clause-sent
returns-clause-sent g c =
    let all = redrawn_touches c.args.drawn.now (g.T.Timeline.touches c.args.timeline.now) in
    let pages = places_in c.args.drawn.now c.args.listed.now in
    let test = λ (place : ℕ). in_words c.args.listed.now (get_or c.args.drawn.now place 0) in
    record {
      list = skim all c.args.step.from c.args.step.rate [] pages;
      sent = skim_is_sent all c.args.step.from c.args.step.rate pages
          (Rises-pages test (length c.args.drawn.now));
      count_is = c.loop-page.invariant.sent_is
          ∙ ap (λ n. length (skim all c.args.step.from c.args.step.rate [] (filter test (range_with_len 0 n))))
          (omega arith);
    }
