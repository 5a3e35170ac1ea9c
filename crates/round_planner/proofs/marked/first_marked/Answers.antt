use Rattle.std.proofs.Common.{◌≡◌, ◌∙◌, ap, length, subst, take}
use Rattle.migration_model.specs.Rates.{MigrationSettings}
use Rattle.migration_model.specs.Rounds.{pages_lacking}
use Rattle.round_planner.specs.Indexing.{IsPoint}
use Rattle.round_planner.proofs.Outcomes.{first_is}
use Rattle.round_planner.proofs.marked.first_marked.Goals as goal

pub returns-clause-first : goal.returns-clause-first
returns-clause-first g c =
    let pages = g.T.Timeline.pages c.args.timeline.now in
    let touches = g.T.Timeline.touches c.args.timeline.now in
    let s = c.args.settings.now in
    let asked = c.asked.view_is ∙ c.asked-asked.ensures.value in
    let start : c.asked.inside.start ≡ s.start = ap (λ (x : MigrationSettings). x.start) asked in
    let base = ap (λ (x : MigrationSettings). x.base) asked in
    let point : IsPoint touches s.start c.before-2.result = subst (λ t. IsPoint touches t c.before-2.result) start
    c.before-2.ensures.point in
    let listed : c.list_lacking-listed.result ≡ length (pages_lacking pages touches s.base s.start) =
    c.list_lacking-listed.ensures.count ∙ (λ i. length (pages_lacking pages touches (base i) (start i))) in
    let first = c.first.ensures in
    first_is pages touches s c.first.result c.asked-asked.ensures.in_range c.list_lacking-listed.ensures.few
    first.step first.total (first.listed ∙ listed)
    (rw first.next c.before-2.ensures.bound) (rw first.next point)

pub returns-clause-list : goal.returns-clause-list
returns-clause-list g c =
    let pages = g.T.Timeline.pages c.args.timeline.now in
    let touches = g.T.Timeline.touches c.args.timeline.now in
    let s = c.args.settings.now in
    let asked = c.asked.view_is ∙ c.asked-asked.ensures.value in
    let start : c.asked.inside.start ≡ s.start = ap (λ (x : MigrationSettings). x.start) asked in
    let base = ap (λ (x : MigrationSettings). x.base) asked in
    let listed : take c.list_lacking-listed.result c.list_lacking-listed.new.room
    ≡ pages_lacking pages touches s.base s.start = c.list_lacking-listed.ensures.list
    ∙ (λ i. pages_lacking pages touches (base i) (start i)) in
    ap (λ n. take n c.list_lacking-listed.new.room) c.first.ensures.listed ∙ listed
