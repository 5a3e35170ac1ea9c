use Rattle.std.proofs.Common.{rules, ◌≡◌, ◌<◌, ◌++◌, ◌∙◌, ap, arith, drop, length, replicate, sym, take}
use Rattle.std.proofs.Math.Seq.{take-append_seam}
use Rattle.migration_model.specs.Rates.{MigrationSettings}
use Rattle.working_sets.specs.Counting.{first_window, passed, turned_open, unseen}
use Rattle.working_sets.specs.Pieces.{state_at}
use Rattle.working_sets.proofs.Carried.{passes_at, ready_at}
use Rattle.working_sets.proofs.Pieced.{begins_so_first, begins_so_more, begins_so_open}
use Rattle.working_sets.proofs.pieces.start_of.Goals as goal

pub loop-index-init : goal.loop-index-init
loop-index-init g c =
    let seen_are : c.in_ok-marks.marks.items ≡ replicate c.page_count.result unseen = search rules in
    let w_is = ap (λ (s : MigrationSettings). s.window) (c.behind-settings.view_is ∙ c.asked.ensures.value) in
    begins_so_first c.args.settings.now.window _ (g.T.Timeline.touches c.args.timeline.now) _ _
    (c.first-at.ensures ∙ ap first_window w_is)
    (seen_are ∙ ap (λ n. replicate n unseen) c.page_count.ensures.pages)

pub turn-requires : goal.turn-requires
turn-requires g c =
    let at = c.loop-index in
    let are = c.asked.ensures.in_range in
    let pages = g.T.Timeline.pages c.args.timeline.now in
    let touches = g.T.Timeline.touches c.args.timeline.now in
    let w_is = ap (λ (s : MigrationSettings). s.window) (c.behind-settings.view_is ∙ c.asked.ensures.value) in
    let low : at.index < length touches = omega (arith, c.loop-index-test.true, c.requires) in
    let can = ready_at pages at.index _ _ touches c.args.settings.now _ are c.touch_count.ensures.fits
    (omega (arith, c.page_count.ensures.pages, c.page_count.ensures.few)) low c.touch-touch.ensures
    (ap (λ t. t.tick) c.touch.view_is) (ap (λ t. t.page) c.touch.view_is) in
    let passes = passes_at pages touches c.args.settings.now at.index are c.touch_count.ensures.fits (omega arith) in
    begins_so_open at.index c.behind-settings.inside.window _ _
    (state_at c.args.settings.now.window pages touches at.index) at.at at.marks.items can
    (passes.passes.window_is ∙ sym w_is) (omega (arith, low, c.touch_count.ensures.fits.few)) at.invariant

pub loop-index-preserved : goal.loop-index-preserved
loop-index-preserved g c =
    let at = c.loop-index in
    let are = c.asked.ensures.in_range in
    let seen = c.pass.new.marks in
    let pages = g.T.Timeline.pages c.args.timeline.now in
    let touches = g.T.Timeline.touches c.args.timeline.now in
    let w_is = ap (λ (s : MigrationSettings). s.window) (c.behind-settings.view_is ∙ c.asked.ensures.value) in
    let low : at.index < length touches = omega (arith, c.loop-index-test.true, c.requires) in
    let tick = ap (λ t. t.tick) c.touch.view_is in
    let page = ap (λ t. t.page) c.touch.view_is in
    let can = ready_at pages at.index _ _ touches c.args.settings.now _ are c.touch_count.ensures.fits
    (omega (arith, c.page_count.ensures.pages, c.page_count.ensures.few)) low c.touch-touch.ensures tick page in
    let passes = passes_at pages touches c.args.settings.now at.index are c.touch_count.ensures.fits (omega arith) in
    let shows = passes.passes.shows in
    let within : c.touch.inside.page < length at.marks.items =
    omega (arith, can.page_low, at.invariant.begins.len, at.invariant.says.len) in
    let next = begins_so_more c.args.settings.now.window _ at.index _ _ touches _ at.at
    c.turn.new.self at.marks.items seen passes.passes.window_is are.window_low shows.end_is low c.touch-touch.ensures
    tick page within at.invariant
    (c.turn.ensures.window ∙ ap (λ w. turned_open w c.touch.inside.tick at.at) w_is)
    (c.pass.ensures
    ∙ ap (λ marks. passed marks c.touch.inside.page c.turn.new.self.place) c.deref_mut.ensures.value) in
    let len : length seen ≡ at.marks.len = search rules in
    let all : take at.marks.len (seen ++ drop (length seen) at.marks.items) ≡ seen =
    ap (λ n. take n (seen ++ drop (length seen) at.marks.items)) (sym len) ∙ take-append_seam seen _ in
    rw all next
