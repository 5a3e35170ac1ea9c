use Rattle.std.proofs.Common.{rules, ◌≡◌, ◌+◌, ◌<◌, ◌≤◌, ◌++◌, ◌∙◌, ap, arith, drop, length, sym, take}
use Rattle.std.proofs.Math.Seq.{take-append_seam}
use Rattle.migration_model.specs.Rates.{MigrationSettings}
use Rattle.working_sets.specs.Counting.{turned_open}
use Rattle.working_sets.specs.Pieces.{state_at}
use Rattle.working_sets.proofs.Carried.{fits_at, passes_at, pushed_if, ready_at}
use Rattle.working_sets.proofs.Pieced.{carries_so_count, carries_so_first, carries_so_more, carries_so_open}
use Rattle.working_sets.proofs.Open.{none_closed}
use Rattle.working_sets.proofs.pieces.count_piece.Goals as goal
use Rattle.working_sets.proofs.pieces.count_piece.Goals.{in-Some+in_ok-push_closed, in_default}

pub loop-index-init : goal.loop-index-init
loop-index-init g c =
    let pages = g.T.Timeline.pages c.args.timeline.now in
    let touches = g.T.Timeline.touches c.args.timeline.now in
    let passes = passes_at pages touches c.args.settings.now c.args.from c.asked.ensures.in_range
    c.touch_count.ensures.fits (omega (arith, c.requires.order, c.requires.low)) in
    let fits = fits_at pages c.args.from touches c.args.settings.now _ c.touch_count.ensures.fits
    (omega (arith, c.page_count.ensures.pages, c.page_count.ensures.few)) passes in
    rw c.new-rows.ensures.items (carries_so_first _ _ _ _ fits c.in_ok-at.ensures)

pub turn-requires : goal.turn-requires
turn-requires g c =
    let at = c.loop-index in
    let are = c.asked.ensures.in_range in
    let pages = g.T.Timeline.pages c.args.timeline.now in
    let touches = g.T.Timeline.touches c.args.timeline.now in
    let w_is = ap (λ (s : MigrationSettings). s.window) (c.behind-settings.view_is ∙ c.asked.ensures.value) in
    let low : at.index < length touches = omega (arith, c.loop-index-test.true, c.requires.low) in
    let passes = passes_at pages touches c.args.settings.now at.index are c.touch_count.ensures.fits (omega arith) in
    let can = ready_at pages at.index _ _ touches c.args.settings.now _ are c.touch_count.ensures.fits
    (omega (arith, c.page_count.ensures.pages, c.page_count.ensures.few)) low c.touch-touch.ensures
    (ap (λ t. t.tick) c.touch.view_is) (ap (λ t. t.page) c.touch.view_is) in
    carries_so_open at.index c.behind-settings.inside.window _ _ _
    (state_at c.args.settings.now.window pages touches at.index) at.rows.items at.at at.marks.items can
    (passes.passes.window_is ∙ sym w_is) (omega (arith, low, c.touch_count.ensures.fits.few)) at.invariant

pub count-requires : goal.count-requires
count-requires g c =
    let at = c.loop-index in
    let are = c.asked.ensures.in_range in
    let pages = g.T.Timeline.pages c.args.timeline.now in
    let touches = g.T.Timeline.touches c.args.timeline.now in
    let w_is = ap (λ (s : MigrationSettings). s.window) (c.behind-settings.view_is ∙ c.asked.ensures.value) in
    let low : at.index < length touches = omega (arith, c.loop-index-test.true, c.requires.low) in
    let passes = passes_at pages touches c.args.settings.now at.index are c.touch_count.ensures.fits (omega arith) in
    let can = ready_at pages at.index _ _ touches c.args.settings.now _ are c.touch_count.ensures.fits
    (omega (arith, c.page_count.ensures.pages, c.page_count.ensures.few)) low c.touch-touch.ensures
    (ap (λ t. t.tick) c.touch.view_is) (ap (λ t. t.page) c.touch.view_is) in
    let shows = passes.passes.shows in
    rw c.deref_mut.ensures.value (carries_so_count at.index c.args.settings.now.window _ _ _ _ at.rows.items at.at
    c.turn.new.self at.marks.items passes.passes.window_is shows.end_is
    (c.turn.ensures.window ∙ ap (λ w. turned_open w c.touch.inside.tick at.at) w_is) can
    (omega (arith, low, c.touch_count.ensures.fits.few)) at.invariant)

pub loop-index-preserved : goal.loop-index-preserved
loop-index-preserved g c =
    let at = c.loop-index in
    let are = c.asked.ensures.in_range in
    let seen = c.count.new.marks in
    let pages = g.T.Timeline.pages c.args.timeline.now in
    let touches = g.T.Timeline.touches c.args.timeline.now in
    let w_is = ap (λ (s : MigrationSettings). s.window) (c.behind-settings.view_is ∙ c.asked.ensures.value) in
    let low : at.index < length touches = omega (arith, c.loop-index-test.true, c.requires.low) in
    let few : pages ≤ 65_536 = omega (arith, c.page_count.ensures.pages, c.page_count.ensures.few) in
    let tick = ap (λ t. t.tick) c.touch.view_is in
    let page = ap (λ t. t.page) c.touch.view_is in
    let can = ready_at pages at.index _ _ touches c.args.settings.now _ are c.touch_count.ensures.fits few low
    c.touch-touch.ensures tick page in
    let passes = passes_at pages touches c.args.settings.now at.index are c.touch_count.ensures.fits (omega arith) in
    let next = passes_at pages touches c.args.settings.now (at.index + 1) are c.touch_count.ensures.fits (omega arith) in
    let fits = fits_at pages (at.index + 1) touches c.args.settings.now _ c.touch_count.ensures.fits few next in
    let within : c.touch.inside.page < length at.marks.items = omega (arith, can.page_low, at.invariant.carries.len, at.invariant.says.len) in
    let put : c.match-turn.rows.items ≡ pushed_if at.rows.items c.turn.result = elim c.match-turn.branch [
      | in-Some+in_ok-push_closed w ↦ (λ i. (w.rows-is i).items) ∙ w.in_ok-push_closed.ensures
          ∙ ap (pushed_if at.rows.items) (sym w.in-Some.is)
      | in_default w ↦ (λ i. (w.rows-is i).items)
          ∙ ap (pushed_if at.rows.items) (sym (none_closed c.turn.result w.in_default.not-Some))
    ] in
    let shows = passes.passes.shows in
    let more = carries_so_more c.args.settings.now.window pages at.index _ _ touches _ _ at.rows.items
    c.match-turn.rows.items at.at c.turn.new.self c.count.new.self at.marks.items seen passes.passes.window_is are.window_low shows.end_is
    low c.touch-touch.ensures tick page within fits at.invariant (put ∙ ap (pushed_if at.rows.items) c.turn.ensures.closed)
    (c.turn.ensures.window ∙ ap (λ w. turned_open w c.touch.inside.tick at.at) w_is)
    (rw c.deref_mut.ensures.value at c.count.ensures.window) (rw c.deref_mut.ensures.value at c.count.ensures.marks) in
    let len : length seen ≡ at.marks.len = search rules in
    let all : take at.marks.len (seen ++ drop (length seen) at.marks.items) ≡ seen =
    ap (λ n. take n (seen ++ drop (length seen) at.marks.items)) (sym len) ∙ take-append_seam seen _ in
    rw all more
