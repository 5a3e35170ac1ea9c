use Rattle.std.proofs.Common.{◌≡◌, ◌∙◌, ap, subst}
use Rattle.migration_model.specs.Rates.{MigrationSettings}
use Rattle.round_planner.specs.Indexing.{IsPoint}
use Rattle.round_planner.proofs.Outcomes.{first_is}
use Rattle.round_planner.proofs.tally.first_counted.Goals as goal

pub returns : goal.returns
returns g c =
    let pages = g.T.Timeline.pages c.args.timeline.now in
    let touches = g.T.Timeline.touches c.args.timeline.now in
    let s = c.args.settings.now in
    let start : c.behind-settings.inside.start ≡ s.start = ap (λ (x : MigrationSettings). x.start)
    (c.behind-settings.view_is ∙ c.asked.ensures.value) in
    let point : IsPoint touches s.start c.before-next.result =
    subst (λ t. IsPoint touches t c.before-next.result) start c.before-next.ensures.point in
    let first = c.first.ensures in
    first_is pages touches s c.first.result c.asked.ensures.in_range c.count_lacking-listed.ensures.few first.step
    first.total (first.listed ∙ c.count_lacking-listed.ensures.count)
    (rw first.next c.before-next.ensures.bound) (rw first.next point)
