use Rattle.link_clock.proofs.Changes.{sound}
use Rattle.link_clock.proofs.Clocks.{touches_fit}
use Rattle.link_clock.proofs.timeline.LinkTimelineTimeline.touch_count.Goals as goal

pub returns-clause-fits : goal.returns-clause-fits
returns-clause-fits g c =
    let self = c.args.self.now in
    touches_fit self.link.now (sound self.link.now self.is_link) (g.T.Timeline.pages self.timeline.now)
    (g.T.Timeline.touches self.timeline.now) c.touch_count.ensures.fits
