use Rattle.std.proofs.Common.{◌*◌, ◌^◌, min}
use Rattle.link_clock.specs.Links.{IsSentBy}
use Rattle.link_clock.proofs.Changes.{sound}
use Rattle.link_clock.proofs.Clocks.{point_by}
use Rattle.link_clock.proofs.timeline.LinkTimelineTimeline.before.Goals as goal

pub returns-clause-point : goal.returns-clause-point
returns-clause-point g c =
    let self = c.args.self.now in
    let first = c.tick_of-first.result in
    let by : IsSentBy self.link.now (self.link.now.rate * min c.args.tick (2 ^ 43)) first =
    rw c.min.ensures at c.tick_of-first.ensures in
    point_by self.link.now (sound self.link.now self.is_link) (g.T.Timeline.pages self.timeline.now)
    (g.T.Timeline.touches self.timeline.now) c.args.tick first c.before-2.result c.touch_count.ensures.fits by
    c.before-2.ensures.bound c.before-2.ensures.point
