use Rattle.std.proofs.Common.{◌∙◌, true, false, arith}
use Rattle.round_planner.proofs.Counted.{looked_at}
use Rattle.round_planner.proofs.scan.look.Goals as goal

pub returns-then-has_page-clause-sent : goal.returns-then-has_page-clause-sent
returns-then-has_page-clause-sent g c =
    let within = c.requires.scan in
    let walk = c.args.walk in
    looked_at (g.T.Timeline.pages c.args.timeline.now) (g.T.Timeline.touches c.args.timeline.now) c.args.pace.now.from
    walk.at.tick c.mark_until-next.result c.args.page walk.at.sent
    c.mark_until-next.new.marks c.has_page.result true (c.mark_until-next.ensures.walked c.args.pace.now.from
    within.tick within.high within.scan)
    c.requires.page c.has_page.ensures c.if-has_page.true

pub returns-then-has_page-clause-scan : goal.returns-then-has_page-clause-scan
returns-then-has_page-clause-scan g c =
    let within = c.requires.scan in
    record {
      tick = c.args.walk.at.tick;
      high = omega arith;
      scan =
          c.mark_until-next.ensures.walked c.args.pace.now.from within.tick within.high within.scan;
    }

pub returns-clause-sent : goal.returns-clause-sent
returns-clause-sent g c =
    let within = c.requires.scan in
    let walk = c.args.walk in
    c.send.ensures.sent
    ∙ looked_at (g.T.Timeline.pages c.args.timeline.now) (g.T.Timeline.touches c.args.timeline.now) c.args.pace.now.from
    walk.at.tick c.mark_until-next.result c.args.page walk.at.sent
    c.mark_until-next.new.marks c.has_page.result false (c.mark_until-next.ensures.walked c.args.pace.now.from
    within.tick within.high within.scan)
    c.requires.page c.has_page.ensures c.if-has_page.false

pub returns-clause-scan : goal.returns-clause-scan
returns-clause-scan g c =
    let within = c.requires.scan in
    record {
      tick = c.args.walk.at.tick;
      high = c.send.ensures.later;
      scan =
          c.mark_until-next.ensures.walked c.args.pace.now.from within.tick within.high within.scan;
    }
