use Rattle.round_planner.proofs.Scans.{begun, marked_pages}
use Rattle.look_planner.proofs.bitmap.mark_since.Goals as goal

pub returns-clause-pages : goal.returns-clause-pages
returns-clause-pages g c =
    let pages = g.T.Timeline.pages c.args.timeline.now in
    let touches = g.T.Timeline.touches c.args.timeline.now in
    let begins = begun pages touches c.args.base c.before-next.result c.args.marks.now c.before-next.ensures.bound
    c.before-next.ensures.point c.requires.clear in
    let scan = c.mark_until.ensures.walked c.args.base c.args.base c.requires.order begins in
    marked_pages pages touches c.args.base c.args.tick c.mark_until.result c.mark_until.new.marks scan
