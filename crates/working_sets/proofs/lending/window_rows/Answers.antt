use Rattle.std.proofs.Common.{rules, ◌≡◌, ◌<◌, ◌∙◌, ap, arith, length, refl, replicate, sym}
use Rattle.migration_model.specs.Rates.{MigrationSettings}
use Rattle.migration_model.specs.Touches.{no_touch}
use Rattle.working_sets.specs.Counting.{unseen}
use Rattle.working_sets.proofs.Lent.{count_closed, lent_end, lent_start, lent_step, rows_closed}
use Rattle.working_sets.proofs.Lent.{slot_closed, slot_low}
use Rattle.working_sets.proofs.Open.{none_closed, tables_count, tables_next, tables_open}
use Rattle.working_sets.proofs.lending.window_rows.Goals as goal
use Rattle.working_sets.proofs.lending.window_rows.Goals.{in-Some, in_default}

pub loop-index-init : goal.loop-index-init
loop-index-init g c =
    let filled : c.fill.new.self ≡ replicate (length c.split_at_mut-marks.result.0.now) unseen = search rules in
    let len : length c.split_at_mut-marks.result.0.now ≡ g.T.Timeline.pages c.args.timeline.now =
    c.split_at_mut-marks.ensures.front_len ∙ c.page_count.ensures.pages in
    lent_start _ _ c.args.settings.now c.behind-settings.inside.window _ c.fill.new.self c.args.rows.now
    c.asked.ensures.in_range
    (ap (λ (x : MigrationSettings). x.window) (c.behind-settings.view_is ∙ c.asked.ensures.value)) c.first-at.ensures
    (filled ∙ ap (λ n. replicate n unseen) len)

pub put_row-count-requires : goal.put_row-count-requires
put_row-count-requires g c =
    let at = c.loop-index in
    let slot = slot_low _ _ c.args.settings.now at.index _ at.at at.count at.marks c.args.rows.now at.rows
    c.touch_count-index-end.ensures.fits c.asked.ensures.in_range
    (ap (λ (x : MigrationSettings). x.window) (c.behind-settings.view_is ∙ c.asked.ensures.value)) at.invariant
    (omega (arith, at.auto.index-end, c.touch_count-index-end.ensures.count)) c.requires.rows in
    slot_closed c.touch.inside.tick at.at c.in-Some.row (at.count < length at.rows) slot
    (sym c.turn.ensures.closed ∙ c.in-Some.is)

pub turn-requires : goal.turn-requires
turn-requires g c =
    let at = c.loop-index in
    tables_open _ _ c.args.settings.now at.index _ _ _ _ no_touch at.at at.invariant.closed at.marks
    c.touch_count-index-end.ensures.fits (omega (arith, c.page_count.ensures.pages, c.page_count.ensures.few))
    c.asked.ensures.in_range at.invariant.passes
    (omega (arith, c.loop-index-test.true, c.touch_count-index-end.ensures.count)) c.touch-touch.ensures
    (ap (λ t. t.tick) c.touch.view_is) (ap (λ t. t.page) c.touch.view_is)

pub count-requires : goal.count-requires
count-requires g c =
    let at = c.loop-index in
    let can = tables_count _ _ c.args.settings.now at.index _ _ _ _ no_touch at.at at.invariant.closed at.marks
    c.touch_count-index-end.ensures.fits (omega (arith, c.page_count.ensures.pages, c.page_count.ensures.few))
    c.asked.ensures.in_range at.invariant.passes
    (omega (arith, c.loop-index-test.true, c.touch_count-index-end.ensures.count)) c.touch-touch.ensures
    (ap (λ t. t.tick) c.touch.view_is) (ap (λ t. t.page) c.touch.view_is) in
    rw c.turn.ensures.window can

pub loop-index-preserved : goal.loop-index-preserved
loop-index-preserved g c =
    let at = c.loop-index in
    let fits = c.touch_count-index-end.ensures.fits in
    let tick = ap (λ t. t.tick) c.touch.view_is in
    let w_is = ap (λ (x : MigrationSettings). x.window) (c.behind-settings.view_is ∙ c.asked.ensures.value) in
    let low : at.index < length (g.T.Timeline.touches c.args.timeline.now) =
    omega (arith, c.loop-index-test.true, c.touch_count-index-end.ensures.count) in
    let page = ap (λ t. t.page) c.touch.view_is in
    let can = tables_count _ _ c.args.settings.now at.index _ _ _ _ no_touch at.at at.invariant.closed at.marks fits
    (omega (arith, c.page_count.ensures.pages, c.page_count.ensures.few)) c.asked.ensures.in_range at.invariant.passes
    low c.touch-touch.ensures tick page in
    let next = tables_next _ _ c.args.settings.now at.index _ _ _ _ no_touch at.at c.turn.new.self c.count.new.self
    at.invariant.closed _ at.marks c.count.new.marks fits at.invariant.passes low c.touch-touch.ensures tick page
    can.page_low c.turn.ensures.window refl c.count.ensures.window c.count.ensures.marks in
    let slot = slot_low _ _ c.args.settings.now at.index _ at.at at.count at.marks c.args.rows.now at.rows fits
    c.asked.ensures.in_range w_is at.invariant
    (omega (arith, at.auto.index-end, c.touch_count-index-end.ensures.count)) c.requires.rows in
    let rows_are : c.match-turn.rows ≡ rows_closed at.rows at.count c.turn.result = elim c.match-turn.branch [
      | in-Some w ↦ w.rows-is ∙ w.put_row-count.ensures.rows ∙ ap (rows_closed at.rows at.count) (sym w.in-Some.is)
      | in_default w ↦ w.rows-is
          ∙ ap (rows_closed at.rows at.count) (sym (none_closed c.turn.result w.in_default.not-Some))
    ] in
    let count_is : c.match-turn.count ≡ count_closed at.count c.turn.result = elim c.match-turn.branch [
      | in-Some w ↦ w.count-is ∙ w.put_row-count.ensures.count ∙ ap (count_closed at.count) (sym w.in-Some.is)
      | in_default w ↦ w.count-is
          ∙ ap (count_closed at.count) (sym (none_closed c.turn.result w.in_default.not-Some))
    ] in
    lent_step _ _ c.args.settings.now at.index _ _ at.at c.count.new.self at.count c.match-turn.count at.marks
    c.count.new.marks c.args.rows.now at.rows c.match-turn.rows at.invariant slot next
    (rows_are ∙ ap (rows_closed at.rows at.count) c.turn.ensures.closed)
    (count_is ∙ ap (count_closed at.count) c.turn.ensures.closed)

pub put_row-requires : goal.put_row-requires
put_row-requires g c =
    let at = c.loop-index in
    slot_low _ _ c.args.settings.now at.index _ at.at at.count at.marks c.args.rows.now at.rows
    c.touch_count-index-end.ensures.fits c.asked.ensures.in_range
    (ap (λ (x : MigrationSettings). x.window) (c.behind-settings.view_is ∙ c.asked.ensures.value)) at.invariant
    (omega (arith, at.auto.index-end, c.touch_count-index-end.ensures.count)) c.requires.rows

pub returns-clause-rows : goal.returns-clause-rows
returns-clause-rows g c =
    let at = c.loop-index in
    let w_is = ap (λ (x : MigrationSettings). x.window) (c.behind-settings.view_is ∙ c.asked.ensures.value) in
    let all = lent_end _ _ c.args.settings.now at.index _ at.at at.count _ at.marks c.args.rows.now at.rows _
    c.touch_count-index-end.ensures.fits c.asked.ensures.in_range w_is at.invariant
    (omega (arith, at.auto.index-end, c.touch_count-index-end.ensures.count))
    (omega (arith, c.loop-index-test.false, c.touch_count-index-end.ensures.count)) c.requires.rows
    c.put_row.ensures.rows c.put_row.ensures.count in
    all.0

pub returns-clause-count : goal.returns-clause-count
returns-clause-count g c =
    let at = c.loop-index in
    let w_is = ap (λ (x : MigrationSettings). x.window) (c.behind-settings.view_is ∙ c.asked.ensures.value) in
    let all = lent_end _ _ c.args.settings.now at.index _ at.at at.count _ at.marks c.args.rows.now at.rows _
    c.touch_count-index-end.ensures.fits c.asked.ensures.in_range w_is at.invariant
    (omega (arith, at.auto.index-end, c.touch_count-index-end.ensures.count))
    (omega (arith, c.loop-index-test.false, c.touch_count-index-end.ensures.count)) c.requires.rows
    c.put_row.ensures.rows c.put_row.ensures.count in
    all.1
