use Rattle.std.proofs.Common.{◌≡◌, ◌∙◌, ◌+◌, ℕ, List, length, refl, sym, ap}
use Rattle.migration_model.specs.Touches.{pages_written}
use Rattle.look_planner.specs.DrawnPages.{redrawn_touches}
use Rattle.look_planner.proofs.DrawnPages.{marked_places}
use Rattle.predictions.proofs.Drawn.{count_places}
use Rattle.round_planner.proofs.Plans.{ran, round_of}
use Rattle.round_planner.proofs.Scans.{walked_on}
use Rattle.predictions.proofs.redrawn.plans.run_round.Goals as goal

pub mark_until-next-requires : goal.mark_until-next-requires
mark_until-next-requires g c =
    let has = c.send_pages-sent.ensures c.requires.now.coming c.requires.now.at in
    record { marks_len = has.within.scan.met.len; next_high = has.within.scan.bound }

pub returns-clause-ran : goal.returns-clause-ran
returns-clause-ran g c coming at =
    let pages = g.T.Timeline.pages c.args.timeline.now in
    let touches = g.T.Timeline.touches c.args.timeline.now in
    let drawn = c.args.drawn.now in
    let all = redrawn_touches drawn touches in
    let ticks = c.duration.result in
    let has = c.send_pages-sent.ensures coming at in
    let to = coming.from + ticks in
    let to_is : c.args.now.now.step.from + ticks ≡ to = ap (λ a. a + ticks) at.from_is in
    let next = c.mark_until-next.result in
    let marks = c.mark_until-next.new.marks in
    let scan =
    walked_on pages touches coming.from coming.rate c.send_pages-sent.result.count ticks to _ _ _ _ refl
    (rw (at.rate_is) at c.duration.ensures.enough) has.within (rw to_is at c.mark_until-next.ensures.walked) in
    record {
      round = round_of (length drawn) all coming has.list ticks;
      dirtied = pages_written (length drawn) all coming.from to;
      run = ran (length drawn) all c.args.settings.now coming has.list c.send_pages-sent.result.count
          c.args.now.now.step.rate ticks at.can has.is_sent has.count_is at.rate_is c.duration.ensures.value
          c.duration.ensures.enough c.duration.ensures.least;
      to_is = to_is;
      sent_is = has.count_is;
      dirtied_is = c.count_in-dirtied.ensures.count ∙ sym (count_places drawn marks)
          ∙ ap (λ (l : List ℕ). length l) (sym (marked_places pages touches drawn coming.from to next marks
          c.requires.drawn scan));
      scan = scan;
    }
