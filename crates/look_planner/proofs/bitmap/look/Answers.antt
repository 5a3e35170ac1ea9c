use Rattle.std.proofs.Common.{◌≡◌, ◌||◌, ℕ, List, length, take, drop, replicate, ap, ◌∙◌, arith}
use Rattle.migration_model.specs.Looks.{is_among, pages_left}
use Rattle.migration_model.specs.Touches.{is_written}
use Rattle.page_bitmap.specs.Listing.{pages_of}
use Rattle.page_bitmap.proofs.Listed.{few_pages}
use Rattle.look_planner.proofs.Marks.{found_are, list_of, list_of_is, listed_next, not_sent_low}
use Rattle.look_planner.proofs.Marks.{ready_next}
use Rattle.look_planner.proofs.bitmap.look.Goals as goal

pub mark_pages-requires : goal.mark_pages-requires
mark_pages-requires g c k d inside =
    let low = not_sent_low (g.T.Timeline.pages c.args.timeline.now) c.args.now.listed c.args.sent.count c.args.room.now
    c.requires.count c.requires.listed.list k d inside in
    omega (arith, low, c.mark_until-next.ensures.room.marks_len)

pub list_marked-pages-requires-clause-room : goal.list_marked-pages-requires-clause-room
list_marked-pages-requires-clause-room g c =
    let pages = g.T.Timeline.pages c.args.timeline.now in
    let touches = g.T.Timeline.touches c.args.timeline.now in
    let now = c.args.now in
    let sent = c.args.sent in
    let room = c.args.room.now in
    let found : pages_of c.mark_pages.new.marks ≡ pages_left pages touches (list_of now sent room) =
    found_are pages touches now sent c.args.marks.now room c.mark_until-next.new.marks c.mark_pages.new.marks
    c.mark_until-next.result (list_of now sent room) c.requires.ready c.requires.listed c.requires.order
    c.requires.count
    c.mark_until-next.ensures.walked c.mark_pages.ensures.len c.mark_pages.ensures.pages (list_of_is now sent room) in
    omega (
      arith,
      ap (λ (l : List ℕ). length l) found,
      few_pages (λ page. is_among page (drop sent.count (take now.listed room))
          || is_written touches now.from sent.to page) 0 pages,
      c.requires.listed.room_len,
    )

pub returns-clause-list : goal.returns-clause-list
returns-clause-list g c list is =
    c.list_marked-pages.ensures.list
    ∙ found_are (g.T.Timeline.pages c.args.timeline.now) (g.T.Timeline.touches c.args.timeline.now) c.args.now
    c.args.sent c.args.marks.now c.args.room.now c.mark_until-next.new.marks c.mark_pages.new.marks
    c.mark_until-next.result list c.requires.ready c.requires.listed c.requires.order c.requires.count
    c.mark_until-next.ensures.walked c.mark_pages.ensures.len
    c.mark_pages.ensures.pages is

pub returns-clause-count : goal.returns-clause-count
returns-clause-count g c list is =
    c.list_marked-pages.ensures.count
    ∙ ap (λ (l : List ℕ). length l) (found_are (g.T.Timeline.pages c.args.timeline.now)
    (g.T.Timeline.touches c.args.timeline.now) c.args.now c.args.sent c.args.marks.now c.args.room.now
    c.mark_until-next.new.marks c.mark_pages.new.marks c.mark_until-next.result list c.requires.ready c.requires.listed
    c.requires.order
    c.requires.count c.mark_until-next.ensures.walked c.mark_pages.ensures.len c.mark_pages.ensures.pages is)

pub returns-clause-ready : goal.returns-clause-ready
returns-clause-ready g c later from at =
    let pages = g.T.Timeline.pages c.args.timeline.now in
    let touches = g.T.Timeline.touches c.args.timeline.now in
    let marks = c.mark_until-next.new.marks in
    ready_next pages touches c.args.now later c.args.sent.to c.args.marks.now marks c.list_marked-pages.new.marks
    c.mark_until-next.result c.requires.ready c.requires.order c.mark_until-next.ensures.walked
    (c.list_marked-pages.ensures.clear ∙ ap (λ n. replicate n 0)
    (c.mark_pages.ensures.len ∙ c.mark_until-next.ensures.room.marks_len)) from at

pub returns-clause-listed : goal.returns-clause-listed
returns-clause-listed g c =
    let pages = g.T.Timeline.pages c.args.timeline.now in
    let touches = g.T.Timeline.touches c.args.timeline.now in
    let now = c.args.now in
    let sent = c.args.sent in
    let room = c.args.room.now in
    let found : pages_of c.mark_pages.new.marks ≡ pages_left pages touches (list_of now sent room) =
    found_are pages touches now sent c.args.marks.now room c.mark_until-next.new.marks c.mark_pages.new.marks
    c.mark_until-next.result (list_of now sent room) c.requires.ready c.requires.listed c.requires.order
    c.requires.count c.mark_until-next.ensures.walked c.mark_pages.ensures.len c.mark_pages.ensures.pages
    (list_of_is now sent room) in
    let list = c.list_marked-pages.ensures in
    listed_next pages touches (list_of now sent room) c.list_marked-pages.new.room c.list_marked-pages.result
    c.requires.listed.list.few (list.room ∙ c.requires.listed.room_len) (list.list ∙ found)
    (list.count ∙ ap (λ (l : List ℕ). length l) found)
