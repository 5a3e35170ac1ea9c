use Rattle.std.proofs.Common.{◌≤◌, ◌∙◌, ap, arith, length}
use Rattle.migration_model.specs.Rates.{MigrationSettings}
use Rattle.working_sets.specs.Counting.{hot_in, with_row}
use Rattle.working_sets.specs.Pieces.{state_at}
use Rattle.working_sets.proofs.Carried.{pages_at, passes_at}
use Rattle.working_sets.proofs.Seen.{hot_same}
use Rattle.working_sets.proofs.Whole.{end_of_pass}
use Rattle.working_sets.proofs.joining.tables_of.Goals as goal

pub hot_pages-requires : goal.hot_pages-requires
hot_pages-requires g c =
    let touches = g.T.Timeline.touches c.args.timeline.now in
    let all : length touches ≤ length touches = omega arith in
    let pages = pages_at _ (length touches) touches c.args.settings.now c.asked-asked.ensures.in_range
    c.touch_count.ensures.fits all in
    rw c.deref.ensures.value
    (omega (arith, c.requires.len, pages, c.page_count.ensures.pages, c.page_count.ensures.few))

pub returns-clause-answer : goal.returns-clause-answer
returns-clause-answer g c =
    let touches = g.T.Timeline.touches c.args.timeline.now in
    let pages = g.T.Timeline.pages c.args.timeline.now in
    let s = c.args.settings.now in
    let all : length touches ≤ length touches = omega arith in
    let passes = passes_at pages touches s (length touches) c.asked-asked.ensures.in_range c.touch_count.ensures.fits
    all in
    let hot = c.in_ok-hot.ensures ∙ ap (λ marks. hot_in marks c.asked.inside.hot) c.deref.ensures.value
    ∙ hot_same c.asked.inside.hot c.args.joined.marks.items (state_at s.window pages touches (length touches)).marks
    c.requires.len c.requires.windows in
    let rows = c.in_ok-push_row.ensures ∙ (λ i. with_row (c.requires.rows i) (c.requires.row i)) in
    end_of_pass pages touches s (length touches) (state_at s.window pages touches (length touches))
    c.asked.inside.hot _ passes all (ap (λ (x : MigrationSettings). x.hot) (c.asked.view_is ∙ c.asked-asked.ensures.value))
    (λ i. record { windows = rows i; hot = hot i })
