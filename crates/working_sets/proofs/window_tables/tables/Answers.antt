use Rattle.std.proofs.Common.{rules, ◌≡◌, ◌<◌, length, drop, take, ◌++◌, ap, ◌∙◌, arith, replicate, sym}
use Rattle.std.proofs.Math.Seq.{take-append_seam}
use Rattle.migration_model.specs.Rates.{MigrationSettings}
use Rattle.migration_model.specs.Touches.{no_touch}
use Rattle.working_sets.specs.Counting.{hot_in, unseen}
use Rattle.working_sets.proofs.Open.{none_closed, tables_count, tables_end, tables_next, tables_open, tables_start, with_closed}
use Rattle.working_sets.proofs.window_tables.tables.Goals as goal
use Rattle.working_sets.proofs.window_tables.tables.Goals.{in-Some+in_ok-push_row, in_default}

pub loop-index-init : goal.loop-index-init
loop-index-init g c =
    let seen_are : c.in_ok-marks.marks.items ≡ replicate c.page_count.result unseen = search rules in
    tables_start _ _ c.args.settings.now c.asked.inside.window _ _ _ c.asked-asked.ensures.in_range
    (ap (λ (s : MigrationSettings). s.window) (c.asked.view_is ∙ c.asked-asked.ensures.value)) c.first-at.ensures
    c.new-rows.ensures.items (seen_are ∙ ap (λ n. replicate n unseen) c.page_count.ensures.pages)

pub turn-requires : goal.turn-requires
turn-requires g c =
    let at = c.loop-index in
    tables_open _ _ c.args.settings.now at.index _ _ _ _ no_touch at.at at.rows.items at.marks.items
    c.touch_count-index-end.ensures.fits (omega (arith, c.page_count.ensures.pages, c.page_count.ensures.few))
    c.asked-asked.ensures.in_range at.invariant
    (omega (arith, c.loop-index-test.true, c.touch_count-index-end.ensures.count)) c.touch-touch.ensures
    (ap (λ t. t.tick) c.touch.view_is) (ap (λ t. t.page) c.touch.view_is)

pub count-requires : goal.count-requires
count-requires g c =
    let at = c.loop-index in
    let can = tables_count _ _ c.args.settings.now at.index _ _ _ _ no_touch at.at at.rows.items at.marks.items
    c.touch_count-index-end.ensures.fits (omega (arith, c.page_count.ensures.pages, c.page_count.ensures.few))
    c.asked-asked.ensures.in_range at.invariant
    (omega (arith, c.loop-index-test.true, c.touch_count-index-end.ensures.count)) c.touch-touch.ensures
    (ap (λ t. t.tick) c.touch.view_is) (ap (λ t. t.page) c.touch.view_is) in
    rw (c.turn.ensures.window, c.deref_mut.ensures.value) can

pub loop-index-preserved : goal.loop-index-preserved
loop-index-preserved g c =
    let at = c.loop-index in
    let seen = c.count.new.marks in
    let low : at.index < length (g.T.Timeline.touches c.args.timeline.now) =
    omega (arith, c.loop-index-test.true, c.touch_count-index-end.ensures.count) in
    let tick = ap (λ t. t.tick) c.touch.view_is in
    let page = ap (λ t. t.page) c.touch.view_is in
    let can = tables_count _ _ c.args.settings.now at.index _ _ _ _ no_touch at.at at.rows.items at.marks.items
    c.touch_count-index-end.ensures.fits (omega (arith, c.page_count.ensures.pages, c.page_count.ensures.few))
    c.asked-asked.ensures.in_range at.invariant low c.touch-touch.ensures tick page in
    let put : c.match-turn.rows.items ≡ with_closed at.rows.items c.turn.result = elim c.match-turn.branch [
      | in-Some+in_ok-push_row w ↦ (λ i. (w.rows-is i).items) ∙ w.in_ok-push_row.ensures
          ∙ ap (with_closed at.rows.items) (sym w.in-Some.is)
      | in_default w ↦ (λ i. (w.rows-is i).items)
          ∙ ap (with_closed at.rows.items) (sym (none_closed c.turn.result w.in_default.not-Some))
    ] in
    let next = tables_next _ _ c.args.settings.now at.index c.asked.inside.window _ _ _ no_touch at.at c.turn.new.self
    c.count.new.self at.rows.items c.match-turn.rows.items at.marks.items seen
    c.touch_count-index-end.ensures.fits at.invariant low c.touch-touch.ensures tick page can.page_low
    c.turn.ensures.window (put ∙ ap (with_closed at.rows.items) c.turn.ensures.closed)
    (rw c.deref_mut.ensures.value at c.count.ensures.window) (rw c.deref_mut.ensures.value at c.count.ensures.marks) in
    let len : length seen ≡ at.marks.len = search rules in
    let all : take at.marks.len (seen ++ drop (length seen) at.marks.items) ≡ seen =
    ap (λ n. take n (seen ++ drop (length seen) at.marks.items)) (sym len) ∙ take-append_seam seen _ in
    rw all next

pub returns-clause-answer : goal.returns-clause-answer
returns-clause-answer g c =
    let at = c.loop-index in
    let hot_is = c.in_ok-hot.ensures ∙ ap (λ seen. hot_in seen c.asked.inside.hot) c.deref.ensures.value in
    tables_end _ _ c.args.settings.now at.index c.asked.inside.window c.asked.inside.hot at.at at.rows.items
    at.marks.items _ at.invariant
    (omega (arith, c.loop-index-test.false, c.touch_count-index-end.ensures.count))
    (ap (λ (s : MigrationSettings). s.hot) (c.asked.view_is ∙ c.asked-asked.ensures.value))
    (λ i. record { windows = c.in_ok-push_row-2.ensures i; hot = hot_is i })
