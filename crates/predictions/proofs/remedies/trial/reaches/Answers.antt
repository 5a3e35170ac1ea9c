use Rattle.predictions.proofs.Decided.{decided}
use Rattle.predictions.proofs.remedies.trial.reaches.Goals as goal

pub returns-in-Some : goal.returns-in-Some
returns-in-Some g c =
    decided c.args.aim (g.T.Timeline.pages c.args.timeline.now) (g.T.Timeline.touches c.args.timeline.now)
    c.args.trial.now c.in-Some.settings c.course-course.result c.last_tick.result c.comes_to.result
    c.in-Some.ensures.some c.in-Some.ensures.made c.course-course.ensures c.last_tick.ensures.value c.comes_to.ensures
