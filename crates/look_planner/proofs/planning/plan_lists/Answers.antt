use Rattle.std.proofs.Common.{◌≡◌, ◌∙◌, ◌+◌, None, Some, length, take, refl, sym, ap, arith}
use Rattle.std.specs.Option.{option_map}
use Rattle.migration_model.specs.Looks.{HypervisorSettings, end_after}
use Rattle.migration_model.specs.Rates.{duration_of}
use Rattle.look_planner.specs.Plans.{end_of}
use Rattle.look_planner.proofs.Ways.{IsWhole, ends, goes_on, has_found, row_with, starts}
use Rattle.look_planner.proofs.planning.plan_lists.Given.{Over}
use Rattle.look_planner.proofs.planning.plan_lists.Goals as goal

pub loop-rows-init : goal.loop-rows-init
loop-rows-init g c = record {
  way = starts (g.T.Timeline.pages c.args.timeline.now) (g.T.Timeline.touches c.args.timeline.now) c.args.settings.now
      c.args.first c.args.room.now c.new-rows.result.items c.requires.first c.new-rows.ensures.items;
  ready = c.requires.ready;
}

pub loop-rows-preserved : goal.loop-rows-preserved
loop-rows-preserved g c =
    let s = c.args.settings.now in
    let now = c.loop-rows.now in
    let sent = c.send_list-sent.result in
    let so = c.send_list-sent.ensures in
    let found = c.look-found.result in
    let count : c.len.result ≡ length c.push.new.self.items = omega (arith, c.len.ensures, c.push.new.self.ok.0) in
    let none : end_after s (now.from + so.ticks) found.pages (length c.push.new.self.items) ≡ None =
    ap (λ n. end_after s (now.from + so.ticks) found.pages n) (sym count)
    ∙ sym (c.end_with.ensures (now.from + so.ticks) so.is_look) ∙ ap (option_map end_of) c.in_default.is in
    record {
      way = goes_on (g.T.Timeline.pages c.args.timeline.now) (g.T.Timeline.touches c.args.timeline.now) s now
          (record { from = sent.to; next = found.next; listed = found.pages }) sent c.loop-rows.room
          c.look-found.new.room c.loop-rows.rows.items c.push.new.self.items (row_with now sent found.pages)
          c.loop-rows.total (c.loop-rows.total + sent.count) c.loop-rows.invariant.way so
          (has_found _ _ now sent c.loop-rows.room c.look-found.new.room found.pages c.look-found.ensures.list
          c.look-found.ensures.count) none refl c.in_ok-push.ensures.items refl refl c.look-found.ensures.listed;
      ready = c.look-found.ensures.ready _ refl refl;
    }

-- the plan that ends with this list
whole : (g : Over) → (c : goal.After-duration g) → IsWhole (g.T.Timeline.pages c.args.timeline.now)
    (g.T.Timeline.touches c.args.timeline.now) c.args.settings.now (record {
      rows = c.push.new.self.items;
      end = end_of c.in-Some.end;
      stop = c.send_list-sent.result.to;
      last = c.in_ok-last.last.items;
      down = c.duration.result;
      sent = c.loop-rows.total + c.send_list-sent.result.count;
    })
whole g c =
    let s = c.args.settings.now in
    let now = c.loop-rows.now in
    let sent = c.send_list-sent.result in
    let so = c.send_list-sent.ensures in
    let found = c.look-found.result in
    let rate : c.behind-settings.inside.rate ≡ s.rate = ap (λ (x : HypervisorSettings). x.rate)
    (c.behind-settings.view_is ∙ c.asked.ensures.value) in
    let count : c.len.result ≡ length c.push.new.self.items = omega (arith, c.len.ensures, c.push.new.self.ok.0) in
    let some : end_after s (now.from + so.ticks) found.pages (length c.push.new.self.items)
    ≡ Some (end_of c.in-Some.end) =
    ap (λ n. end_after s (now.from + so.ticks) found.pages n) (sym count)
    ∙ sym (c.in-Some.ensures (now.from + so.ticks) so.is_look) in
    let last : c.in_ok-last.last.items ≡ take found.pages c.look-found.new.room =
    grind (arith, c.in_ok-last.ensures.items) in
    ends (g.T.Timeline.pages c.args.timeline.now) (g.T.Timeline.touches c.args.timeline.now) s now sent
    c.loop-rows.room c.look-found.new.room c.in_ok-last.last.items c.loop-rows.rows.items
    c.push.new.self.items (row_with now sent found.pages) c.loop-rows.total (c.loop-rows.total + sent.count)
    found.pages c.duration.result (end_of c.in-Some.end) c.loop-rows.invariant.way
    so (has_found _ _ now sent c.loop-rows.room c.look-found.new.room found.pages c.look-found.ensures.list
    c.look-found.ensures.count) some refl
    c.in_ok-push.ensures.items refl last (c.duration.ensures.value ∙ ap (λ r. duration_of found.pages r) rate)

pub returns-in-Some : goal.returns-in-Some
returns-in-Some g c = (whole g c).are

pub invariant_of-result : goal.invariant_of-result
invariant_of-result g c = (whole g c).small
