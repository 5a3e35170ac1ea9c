use Rattle.std.proofs.Common.{◌≡◌, ◌∙◌, ◌+◌, None, Some, arith, refl, sym, ap}
use Rattle.std.specs.Option.{option_map}
use Rattle.migration_model.specs.Looks.{end_after}
use Rattle.look_planner.specs.Plans.{end_of, looks_of}
use Rattle.look_planner.proofs.Ways.{has_found}
use Rattle.look_planner.proofs.SummedLists.{sums_end, sums_go_on, sums_start}
use Rattle.look_planner.proofs.summing.sum_lists.Goals as goal

pub loop-end-init : goal.loop-end-init
loop-end-init g c = record {
  way = sums_start (g.T.Timeline.pages c.args.timeline.now) (g.T.Timeline.touches c.args.timeline.now)
      c.args.settings.now c.args.first c.args.room.now _ c.requires.first refl refl (omega arith);
  ready = c.requires.ready;
}

pub loop-end-preserved : goal.loop-end-preserved
loop-end-preserved g c =
    let s = c.args.settings.now in
    let pages = g.T.Timeline.pages c.args.timeline.now in
    let touches = g.T.Timeline.touches c.args.timeline.now in
    let now = c.loop-end.now in
    let sent = c.send_list-sent.result in
    let so = c.send_list-sent.ensures in
    let seen = c.look-found.result in
    let none : end_after s (now.from + so.ticks) seen.pages (c.loop-end.sums.lists + 1) ≡ None =
    sym (c.end_with.ensures (now.from + so.ticks) so.is_look) ∙ ap (option_map end_of) c.in_default.is in
    let more = c.with-sums.ensures in
    record {
      way = sums_go_on pages touches s now (record { from = sent.to; next = seen.next; listed = seen.pages }) sent
          c.loop-end.room c.look-found.new.room c.loop-end.sums c.with-sums.result c.loop-end.invariant.way so
          (has_found pages touches now sent c.loop-end.room c.look-found.new.room seen.pages
          c.look-found.ensures.list c.look-found.ensures.count) none more.lists more.sent more.first more.later refl
          c.look-found.ensures.listed;
      ready = c.look-found.ensures.ready _ refl refl;
    }

pub returns-in-Some : goal.returns-in-Some
returns-in-Some g c =
    let pages = g.T.Timeline.pages c.args.timeline.now in
    let touches = g.T.Timeline.touches c.args.timeline.now in
    let now = c.loop-end.now in
    let sent = c.send_list-sent.result in
    let so = c.send_list-sent.ensures in
    let seen = c.look-found.result in
    let listed = c.look-found.ensures.listed in
    let ended = c.ended.ensures in
    sums_end pages touches c.args.settings.now now sent c.loop-end.room c.look-found.new.room seen.pages
    c.loop-end.sums c.ended.result c.loop-end.invariant.way so (has_found pages touches now sent c.loop-end.room
    c.look-found.new.room seen.pages c.look-found.ensures.list c.look-found.ensures.count)
    (omega (arith, listed.few, listed.room_len)) (sym (c.in-Some.ensures (now.from + so.ticks) so.is_look)
    ∙ ap (λ e. Some (end_of e)) (sym ended.end)) (ended.looks ∙ ap (λ e. looks_of (end_of e)
    (c.loop-end.sums.lists + 1)) (sym ended.end)) ended.stop ended.total ended.left ended.down ended.shortens
