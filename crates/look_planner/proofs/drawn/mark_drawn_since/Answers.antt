use Rattle.std.proofs.Common.{rules, ◌≡◌, ◌∙◌, ap, length, replicate}
use Rattle.round_planner.proofs.Scans.{begun}
use Rattle.look_planner.proofs.DrawnPages.{places_since}
use Rattle.look_planner.proofs.drawn.mark_drawn_since.Goals as goal

pub returns-clause-marks : goal.returns-clause-marks
returns-clause-marks g c =
    let filled : c.fill.new.self ≡ replicate (length c.mark_until.new.marks) 0 = search rules in
    filled ∙ ap (λ n. replicate n 0) c.mark_until.ensures.room.marks_len

pub returns-clause-places : goal.returns-clause-places
returns-clause-places g c =
    let pages = g.T.Timeline.pages c.args.timeline.now in
    let touches = g.T.Timeline.touches c.args.timeline.now in
    let base = c.args.base in
    let begins = begun pages touches base c.before-next.result c.args.marks.now c.before-next.ensures.bound
    c.before-next.ensures.point c.requires.marks in
    let marked = c.mark_places.ensures in
    places_since pages touches c.args.drawn.now base c.args.tick c.mark_until.result c.mark_until.new.marks
    c.args.places.now c.mark_places.new.places c.requires.drawn
    (c.mark_until.ensures.walked base base c.requires.order begins) c.requires.places marked.len marked.marked
    marked.others
