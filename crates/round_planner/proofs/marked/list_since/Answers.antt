use Rattle.std.proofs.Common.{rules, ◌≡◌, ◌∙◌, ap, arith, length, replicate}
use Rattle.round_planner.proofs.Scans.{begun, marked_few, marked_pages}
use Rattle.round_planner.proofs.marked.list_since.Goals as goal

pub turn-requires-clause-marks : goal.turn-requires-clause-marks
turn-requires-clause-marks g c = omega (arith, c.mark_until.ensures.room.marks_len, c.requires.few)

pub turn-requires-clause-room : goal.turn-requires-clause-room
turn-requires-clause-room g c =
    let filled : c.fill.new.self ≡ replicate (length c.args.marks.now) 0 = search rules in
    let begins = begun (g.T.Timeline.pages c.args.timeline.now) (g.T.Timeline.touches c.args.timeline.now) c.args.base
    c.before-next.result c.fill.new.self
    c.before-next.ensures.bound c.before-next.ensures.point (filled
    ∙ ap (λ n. replicate n 0) c.requires.marks.marks_len) in
    let scan = c.mark_until.ensures.walked c.args.base c.args.base c.requires.order begins in
    omega (arith, marked_few _ _ c.args.base _ _ _ scan, c.requires.marks.room_len)

pub returns-clause-count : goal.returns-clause-count
returns-clause-count g c =
    let filled : c.fill.new.self ≡ replicate (length c.args.marks.now) 0 = search rules in
    let begins = begun (g.T.Timeline.pages c.args.timeline.now) (g.T.Timeline.touches c.args.timeline.now) c.args.base
    c.before-next.result c.fill.new.self
    c.before-next.ensures.bound c.before-next.ensures.point (filled
    ∙ ap (λ n. replicate n 0) c.requires.marks.marks_len) in
    let scan = c.mark_until.ensures.walked c.args.base c.args.base c.requires.order begins in
    c.turn.ensures.count ∙ ap length (marked_pages _ _ c.args.base _ _ _ scan)

pub returns-clause-list : goal.returns-clause-list
returns-clause-list g c =
    let pages = g.T.Timeline.pages c.args.timeline.now in
    let touches = g.T.Timeline.touches c.args.timeline.now in
    let filled : c.fill.new.self ≡ replicate (length c.args.marks.now) 0 = search rules in
    let begins = begun pages touches c.args.base c.before-next.result c.fill.new.self
    c.before-next.ensures.bound c.before-next.ensures.point (filled
    ∙ ap (λ n. replicate n 0) c.requires.marks.marks_len) in
    let scan = c.mark_until.ensures.walked c.args.base c.args.base c.requires.order begins in
    (c.turn.ensures.turned pages c.args.base c.args.tick c.mark_until.result touches scan).list
