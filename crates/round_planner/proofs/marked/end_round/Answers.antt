use Rattle.std.proofs.Common.{◌≡◌, ◌∙◌, ◌+◌, ℕ, length, refl, sym, ap, subst, arith}
use Rattle.migration_model.specs.Touches.{pages_written}
use Rattle.round_planner.specs.Indexing.{IsTurned}
use Rattle.round_planner.proofs.Plans.{ran, round_of}
use Rattle.round_planner.proofs.Scans.{marked_few, marked_pages, walked_on}
use Rattle.round_planner.proofs.marked.end_round.Goals as goal

pub mark_until-next-requires : goal.mark_until-next-requires
mark_until-next-requires g c =
    let within = c.requires.sent.has.within in
    record { marks_len = within.scan.met.len; next_high = within.scan.bound }

pub turn-dirtied-requires-clause-marks : goal.turn-dirtied-requires-clause-marks
turn-dirtied-requires-clause-marks g c = omega (
  arith,
  c.mark_until-next.ensures.room.marks_len,
  c.requires.sent.at.can.list.few,
)

pub turn-dirtied-requires-clause-room : goal.turn-dirtied-requires-clause-room
turn-dirtied-requires-clause-room g c =
    let can = c.requires.sent in
    let coming = can.coming in
    let scan =
    walked_on (g.T.Timeline.pages c.args.timeline.now) (g.T.Timeline.touches c.args.timeline.now) coming.from
    coming.rate c.args.sent.count c.duration.result
    (c.args.now.now.step.from + c.duration.result) _ _ _ _ (ap (λ t. t + c.duration.result) can.at.from_is)
    (rw (can.at.rate_is) at c.duration.ensures.enough) can.has.within c.mark_until-next.ensures.walked in
    omega (arith, marked_few _ _ coming.from _ _ _ scan, can.room_len)

pub returns-clause-room : goal.returns-clause-room
returns-clause-room g c = omega (arith, c.turn-dirtied.ensures.room, c.requires.sent.room_len)

pub returns-clause-turned : goal.returns-clause-turned
returns-clause-turned g c =
    let pages = g.T.Timeline.pages c.args.timeline.now in
    let touches = g.T.Timeline.touches c.args.timeline.now in
    let can = c.requires.sent in
    let coming = can.coming in
    let at = can.at in
    let to = c.args.now.now.step.from + c.duration.result in
    let next = c.mark_until-next.result in
    let scan =
    walked_on pages touches coming.from coming.rate c.args.sent.count c.duration.result to _ _ _ _
    (ap (λ t. t + c.duration.result) at.from_is)
    (rw (at.rate_is) at c.duration.ensures.enough) can.has.within c.mark_until-next.ensures.walked in
    subst (λ (from : ℕ). IsTurned pages touches from to c.turn-dirtied.result next c.turn-dirtied.new.marks
    c.turn-dirtied.new.room) (sym at.from_is)
    (c.turn-dirtied.ensures.turned pages coming.from to next touches scan)

pub returns-clause-ran : goal.returns-clause-ran
returns-clause-ran g c coming at has =
    let pages = g.T.Timeline.pages c.args.timeline.now in
    let touches = g.T.Timeline.touches c.args.timeline.now in
    let ticks = c.duration.result in
    let to = coming.from + ticks in
    let to_is : c.args.now.now.step.from + ticks ≡ to = ap (λ a. a + ticks) at.from_is in
    let next = c.mark_until-next.result in
    let marks = c.mark_until-next.new.marks in
    let scan =
    walked_on pages touches coming.from coming.rate c.args.sent.count ticks to _ _ _ _ refl
    (rw (at.rate_is) at c.duration.ensures.enough) has.within (rw to_is at c.mark_until-next.ensures.walked) in
    record {
      round = round_of pages touches coming has.list ticks;
      dirtied = pages_written pages touches coming.from to;
      run = ran pages touches c.args._settings.now coming has.list c.args.sent.count c.args.now.now.step.rate ticks
          at.can has.is_sent has.count_is at.rate_is c.duration.ensures.value c.duration.ensures.enough
          c.duration.ensures.least;
      to_is = to_is;
      sent_is = has.count_is;
      dirtied_is = c.turn-dirtied.ensures.count ∙ ap length (marked_pages pages touches coming.from to next marks scan);
      bound = scan.bound;
      point = scan.point;
    }
