use Rattle.sweep_report.proofs.Taken.{lines_more}
use Rattle.sweep_report.proofs.sweeping.one_by_one.Goals as goal

pub loop-case-preserved : goal.loop-case-preserved
loop-case-preserved g c =
    lines_more (g.T.Timeline.pages c.args.timeline.now) c.loop-case.case-index
    (g.T.Timeline.touches c.args.timeline.now) c.args.cases.now c.loop-case.lines.items c.push.new.self.items _
    c.in_ok-line_of.field-0 c.loop-case-test.true c.case-item.is c.in_ok-push.ensures.items c.loop-case.invariant
    c.in_ok-line_of.ensures.line
