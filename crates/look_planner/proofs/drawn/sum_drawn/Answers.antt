use Rattle.std.proofs.Common.{◌≡◌, ◌∙◌, ◌+◌, None, Some, arith, length, refl, sym, ap}
use Rattle.std.specs.Option.{option_map}
use Rattle.migration_model.specs.Looks.{end_after}
use Rattle.look_planner.specs.DrawnPages.{redrawn_touches}
use Rattle.look_planner.specs.Plans.{end_of, looks_of}
use Rattle.look_planner.proofs.Ways.{has_found}
use Rattle.look_planner.proofs.SummedLists.{sums_end, sums_go_on, sums_start}
use Rattle.look_planner.proofs.drawn.sum_drawn.Goals as goal

pub loop-end-init : goal.loop-end-init
loop-end-init g c = record {
  way = sums_start (length c.args.drawn.now) (redrawn_touches c.args.drawn.now
      (g.T.Timeline.touches c.args.timeline.now)) c.args.settings.now c.args.first c.args.room.now _ c.requires.first
      refl refl (omega arith);
  ready = c.requires.ready;
  places = c.requires.places;
}

pub loop-end-preserved : goal.loop-end-preserved
loop-end-preserved g c =
    let s = c.args.settings.now in
    let drawn = c.args.drawn.now in
    let all = redrawn_touches drawn (g.T.Timeline.touches c.args.timeline.now) in
    let now = c.loop-end.now in
    let sent = c.send_list-sent.result in
    let so = c.send_list-sent.ensures in
    let seen = c.look_drawn-found.result in
    let look = c.look_drawn-found.ensures in
    let none : end_after s (now.from + so.ticks) seen.pages (c.loop-end.sums.lists + 1) ≡ None =
    sym (c.end_with.ensures (now.from + so.ticks) so.is_look) ∙ ap (option_map end_of) c.in_default.is in
    let more = c.with-sums.ensures in
    record {
      way = sums_go_on (length drawn) all s now (record { from = sent.to; next = seen.next; listed = seen.pages })
          sent c.loop-end.room c.look_drawn-found.new.room c.loop-end.sums c.with-sums.result c.loop-end.invariant.way
          so (has_found (length drawn) all now sent c.loop-end.room c.look_drawn-found.new.room seen.pages look.list
          look.count) none more.lists more.sent more.first more.later refl look.listed;
      ready = look.ready _ refl refl;
      places = look.places;
    }

pub returns-in-Some : goal.returns-in-Some
returns-in-Some g c =
    let drawn = c.args.drawn.now in
    let all = redrawn_touches drawn (g.T.Timeline.touches c.args.timeline.now) in
    let now = c.loop-end.now in
    let sent = c.send_list-sent.result in
    let so = c.send_list-sent.ensures in
    let seen = c.look_drawn-found.result in
    let look = c.look_drawn-found.ensures in
    let ended = c.ended.ensures in
    sums_end (length drawn) all c.args.settings.now now sent c.loop-end.room c.look_drawn-found.new.room seen.pages
    c.loop-end.sums c.ended.result c.loop-end.invariant.way so (has_found (length drawn) all now sent c.loop-end.room
    c.look_drawn-found.new.room seen.pages look.list look.count)
    (omega (arith, look.listed.few, look.listed.room_len)) (sym (c.in-Some.ensures (now.from + so.ticks) so.is_look)
    ∙ ap (λ e. Some (end_of e)) (sym ended.end)) (ended.looks ∙ ap (λ e. looks_of (end_of e)
    (c.loop-end.sums.lists + 1)) (sym ended.end)) ended.stop ended.total ended.left ended.down ended.shortens
