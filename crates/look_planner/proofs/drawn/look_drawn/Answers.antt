use Rattle.std.proofs.Common.{rules, ◌≡◌, ◌||◌, ℕ, List, length, take, drop, replicate, ap, ◌∙◌, arith}
use Rattle.std.proofs.lemmas.List.{length-replicate}
use Rattle.migration_model.specs.Looks.{is_among, pages_left}
use Rattle.migration_model.specs.Touches.{is_written}
use Rattle.page_bitmap.specs.Listing.{pages_of, word_count}
use Rattle.page_bitmap.proofs.Listed.{few_pages}
use Rattle.look_planner.specs.DrawnPages.{redrawn_touches}
use Rattle.look_planner.proofs.DrawnPages.{drawn_found}
use Rattle.look_planner.proofs.Marks.{list_of, list_of_is, listed_next, not_sent_low, ready_next}
use Rattle.look_planner.proofs.drawn.look_drawn.Goals as goal

pub mark_pages-requires : goal.mark_pages-requires
mark_pages-requires g c k d inside =
    let low = not_sent_low (length c.args.drawn.now) c.args.now.listed c.args.sent.count c.args.room.now
    c.requires.count c.requires.listed.list k d inside in
    let words : length c.args.places.now ≡ word_count (length c.args.drawn.now) =
    ap (λ (l : List ℕ). length l) c.requires.places ∙ length-replicate (word_count (length c.args.drawn.now)) 0 in
    omega (arith, low, words)

pub list_marked-pages-requires-clause-room : goal.list_marked-pages-requires-clause-room
list_marked-pages-requires-clause-room g c =
    let now = c.args.now in
    let sent = c.args.sent in
    let room = c.args.room.now in
    let drawn = c.args.drawn.now in
    let all = redrawn_touches drawn (g.T.Timeline.touches c.args.timeline.now) in
    let are : pages_of c.mark_places.new.places ≡ pages_left (length drawn) all (list_of now sent room) =
    drawn_found (g.T.Timeline.pages c.args.timeline.now) (g.T.Timeline.touches c.args.timeline.now) c.args.drawn.now
    c.args.now c.args.sent c.args.marks.now c.args.places.now c.args.room.now c.mark_until-next.new.marks
    c.mark_pages.new.marks c.mark_places.new.places c.mark_until-next.result (list_of now sent room) c.requires.drawn
    c.requires.ready
    c.requires.places c.requires.listed c.requires.order c.requires.count c.mark_until-next.ensures.walked
    c.mark_pages.ensures.len c.mark_pages.ensures.pages c.mark_places.ensures.len c.mark_places.ensures.marked
    c.mark_places.ensures.others (list_of_is now sent room) in
    omega (
      arith,
      ap (λ (l : List ℕ). length l) are,
      few_pages (λ place. is_among place (drop sent.count (take now.listed room))
          || is_written all now.from sent.to place) 0 (length drawn),
      c.requires.listed.room_len,
    )

pub returns-clause-list : goal.returns-clause-list
returns-clause-list g c list is = c.list_marked-pages.ensures.list
    ∙ drawn_found (g.T.Timeline.pages c.args.timeline.now) (g.T.Timeline.touches c.args.timeline.now) c.args.drawn.now
    c.args.now c.args.sent c.args.marks.now c.args.places.now c.args.room.now c.mark_until-next.new.marks
    c.mark_pages.new.marks c.mark_places.new.places c.mark_until-next.result list c.requires.drawn c.requires.ready
    c.requires.places c.requires.listed c.requires.order c.requires.count c.mark_until-next.ensures.walked
    c.mark_pages.ensures.len c.mark_pages.ensures.pages c.mark_places.ensures.len c.mark_places.ensures.marked
    c.mark_places.ensures.others is

pub returns-clause-count : goal.returns-clause-count
returns-clause-count g c list is = c.list_marked-pages.ensures.count
    ∙ ap (λ (l : List ℕ). length l) (drawn_found (g.T.Timeline.pages c.args.timeline.now) (g.T.Timeline.touches
    c.args.timeline.now) c.args.drawn.now
    c.args.now c.args.sent c.args.marks.now c.args.places.now c.args.room.now c.mark_until-next.new.marks
    c.mark_pages.new.marks c.mark_places.new.places c.mark_until-next.result list c.requires.drawn c.requires.ready
    c.requires.places c.requires.listed c.requires.order c.requires.count c.mark_until-next.ensures.walked
    c.mark_pages.ensures.len c.mark_pages.ensures.pages c.mark_places.ensures.len c.mark_places.ensures.marked
    c.mark_places.ensures.others is)

pub returns-clause-ready : goal.returns-clause-ready
returns-clause-ready g c later from at =
    let marks = c.mark_until-next.new.marks in
    let filled : c.fill.new.self ≡ replicate (length marks) 0 = search rules in
    ready_next (g.T.Timeline.pages c.args.timeline.now) (g.T.Timeline.touches c.args.timeline.now) c.args.now later
    c.args.sent.to c.args.marks.now marks c.fill.new.self c.mark_until-next.result c.requires.ready c.requires.order
    c.mark_until-next.ensures.walked (filled ∙ ap (λ n. replicate n 0) c.mark_until-next.ensures.room.marks_len) from at

pub returns-clause-places : goal.returns-clause-places
returns-clause-places g c =
    let words : length c.args.places.now ≡ word_count (length c.args.drawn.now) =
    ap (λ (l : List ℕ). length l) c.requires.places ∙ length-replicate (word_count (length c.args.drawn.now)) 0 in
    c.list_marked-pages.ensures.clear
    ∙ ap (λ n. replicate n 0) (c.mark_places.ensures.len ∙ c.mark_pages.ensures.len ∙ words)

pub returns-clause-listed : goal.returns-clause-listed
returns-clause-listed g c =
    let drawn = c.args.drawn.now in
    let all = redrawn_touches drawn (g.T.Timeline.touches c.args.timeline.now) in
    let now = c.args.now in
    let sent = c.args.sent in
    let room = c.args.room.now in
    let are : pages_of c.mark_places.new.places ≡ pages_left (length drawn) all (list_of now sent room) =
    drawn_found (g.T.Timeline.pages c.args.timeline.now) (g.T.Timeline.touches c.args.timeline.now) c.args.drawn.now
    c.args.now c.args.sent c.args.marks.now c.args.places.now c.args.room.now c.mark_until-next.new.marks
    c.mark_pages.new.marks c.mark_places.new.places c.mark_until-next.result (list_of now sent room) c.requires.drawn
    c.requires.ready
    c.requires.places c.requires.listed c.requires.order c.requires.count c.mark_until-next.ensures.walked
    c.mark_pages.ensures.len c.mark_pages.ensures.pages c.mark_places.ensures.len c.mark_places.ensures.marked
    c.mark_places.ensures.others (list_of_is now sent room) in
    let list = c.list_marked-pages.ensures in
    listed_next (length drawn) all (list_of now sent room) c.list_marked-pages.new.room c.list_marked-pages.result
    c.requires.drawn.few (list.room ∙ c.requires.listed.room_len) (list.list ∙ are)
    (list.count ∙ ap (λ (l : List ℕ). length l) are)
