use Rattle.std.proofs.Common.{◌∙◌, true, false, sym, arith}
use Rattle.predictions.proofs.Drawn.{later_tick, looked}
use Rattle.predictions.proofs.redrawn.walk.look.Goals as goal

pub returns-then-has_page-clause-sent : goal.returns-then-has_page-clause-sent
returns-then-has_page-clause-sent g c =
    let within = c.requires.scan in
    looked (g.T.Timeline.pages c.args.timeline.now) (g.T.Timeline.touches c.args.timeline.now) c.args.step.from _
    c.mark_until-next.result c.args.page c.args.walk.sent c.mark_until-next.new.marks c.has_page-2.result true _
    (c.mark_until-next.ensures.walked c.args.step.from within.tick within.high within.scan)
    c.requires.page c.has_page-2.ensures c.if-has_page.true (sym c.has_page.ensures ∙ c.if-not-has_page.false)

pub returns-then-has_page-clause-scan : goal.returns-then-has_page-clause-scan
returns-then-has_page-clause-scan g c =
    let within = c.requires.scan in
    record {
      tick = _;
      high = omega arith;
      scan = c.mark_until-next.ensures.walked c.args.step.from within.tick within.high within.scan;
    }

pub returns-clause-sent : goal.returns-clause-sent
returns-clause-sent g c =
    let within = c.requires.scan in
    looked (g.T.Timeline.pages c.args.timeline.now) (g.T.Timeline.touches c.args.timeline.now) c.args.step.from _
    c.mark_until-next.result c.args.page c.args.walk.sent c.mark_until-next.new.marks c.has_page-2.result false _
    (c.mark_until-next.ensures.walked c.args.step.from within.tick within.high within.scan)
    c.requires.page c.has_page-2.ensures c.if-has_page.false (sym c.has_page.ensures ∙ c.if-not-has_page.false)

pub returns-clause-scan : goal.returns-clause-scan
returns-clause-scan g c =
    let within = c.requires.scan in
    record {
      tick = _;
      high = later_tick c.args.step.from c.args.walk.sent c.args.step.rate c.requires.rate;
      scan = c.mark_until-next.ensures.walked c.args.step.from within.tick within.high within.scan;
    }
