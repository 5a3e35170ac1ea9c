use Rattle.predictions.proofs.PlannedCases.{cases_more}
use Rattle.predictions.proofs.starts.planned.push_cases.Goals as goal

pub loop-case-preserved : goal.loop-case-preserved
loop-case-preserved g c =
    cases_more c.args.measure.now.manner (g.T.Timeline.pages c.args.timeline.now) c.loop-case.case-index
    (g.T.Timeline.touches c.args.timeline.now) c.args.measure.now.scale c.args.settings.now c.loop-case.cases.items
    c.push.new.self.items _ _ c.loop-case-test.true c.case-item.is c.in_ok-push.ensures.items c.loop-case.invariant
    c.course_in-course.ensures
