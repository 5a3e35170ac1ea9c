use Rattle.std.proofs.Common.{◌≤◌, ◌∙◌, ℕ, Option, IfSome, length, sym, ap, subst, arith}
use Rattle.std.proofs.lemmas.List.FromFn.{length-range_with_len}
use Rattle.migration_model.specs.Rates.{MigrationSettings}
use Rattle.migration_model.specs.Rounds.{pages_lacking}
use Rattle.migration_model.specs.Touches.{no_touch}
use Rattle.round_planner.proofs.Columns.{pages_counted, points_rise}
use Rattle.round_planner.proofs.tally.count_lacking.Goals as goal

pub first_touches-requires-clause-few : goal.first_touches-requires-clause-few
first_touches-requires-clause-few g c = omega (arith, c.requires.index.earlier_len, c.requires.index.fits.few)

pub first_touches-requires-clause-order : goal.first_touches-requires-clause-order
first_touches-requires-clause-order g c =
    let touches = g.T.Timeline.touches c.args.timeline.now in
    let s = c.args.settings.now in
    let asked = sym (c.behind-settings.view_is ∙ c.asked.ensures.value) in
    let base = ap (λ (x : MigrationSettings). x.base) asked ∙ c.in-Some.is in
    let early = subst (λ (o : Option ℕ). IfSome o (λ tick. tick ≤ s.start)) base c.asked.ensures.in_range.base_high in
    let before = c.before-in-Some.ensures in
    points_rise touches c.in-Some.base s.start c.before-in-Some.result c.args.next
    early before.bound before.point c.requires.point

pub returns-in-Some-clause-count : goal.returns-in-Some-clause-count
returns-in-Some-clause-count g c =
    let pages = g.T.Timeline.pages c.args.timeline.now in
    let touches = g.T.Timeline.touches c.args.timeline.now in
    let s = c.args.settings.now in
    let index = c.requires.index in
    let asked = sym (c.behind-settings.view_is ∙ c.asked.ensures.value) in
    let base = ap (λ (x : MigrationSettings). x.base) asked ∙ c.in-Some.is in
    let early = subst (λ (o : Option ℕ). IfSome o (λ tick. tick ≤ s.start)) base c.asked.ensures.in_range.base_high in
    let before = c.before-in-Some.ensures in
    let low = c.before-in-Some.result in
    let order =
    points_rise touches c.in-Some.base s.start low c.args.next early before.bound before.point c.requires.point in
    c.first_touches.ensures
    ∙ sym (pages_counted pages touches c.args.index.now.earlier c.in-Some.base s.start low c.args.next index.earlier_len
    index.earlier (λ i inside. (index.fits.each i no_touch inside).page) before.point c.requires.point order
    c.requires.bound)
    ∙ ap (λ (o : Option ℕ). length (pages_lacking pages touches o s.start)) (sym base)

pub returns-in-None-clause-count : goal.returns-in-None-clause-count
returns-in-None-clause-count g c =
    let pages = g.T.Timeline.pages c.args.timeline.now in
    let touches = g.T.Timeline.touches c.args.timeline.now in
    let s = c.args.settings.now in
    let asked = sym (c.behind-settings.view_is ∙ c.asked.ensures.value) in
    let none = ap (λ (x : MigrationSettings). x.base) asked ∙ c.in-None.is in
    c.page_count-all.ensures.pages ∙ sym (length-range_with_len 0 pages)
    ∙ ap (λ (o : Option ℕ). length (pages_lacking pages touches o s.start)) (sym none)
