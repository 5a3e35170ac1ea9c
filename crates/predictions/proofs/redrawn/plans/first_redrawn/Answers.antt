use Rattle.std.proofs.Common.{rules, ◌≡◌, ◌∙◌, length, replicate, refl, sym, ap, subst, ℕ, List}
use Rattle.migration_model.specs.Rates.{MigrationSettings}
use Rattle.migration_model.specs.Rounds.{first_round}
use Rattle.look_planner.specs.DrawnPages.{redrawn_touches}
use Rattle.round_planner.specs.Indexing.{IsPoint}
use Rattle.round_planner.proofs.Plans.{can_start}
use Rattle.round_planner.proofs.Scans.{begun}
use Rattle.predictions.proofs.Drawn.{count_places}
use Rattle.round_planner.specs.Scanning.{IsScan}
use Rattle.round_planner.specs.declared.step.Step.{Step}
use Rattle.predictions.proofs.redrawn.plans.first_redrawn.Goals as goal

pub returns-clause-stands : goal.returns-clause-stands
returns-clause-stands g c =
    let pages = g.T.Timeline.pages c.args.timeline.now in
    let touches = g.T.Timeline.touches c.args.timeline.now in
    let drawn = c.args.drawn.now in
    let s = c.args.settings.now in
    let asked = c.asked.view_is ∙ c.asked-asked.ensures.value in
    let start : c.asked.inside.start ≡ s.start = ap (λ (x : MigrationSettings). x.start) asked in
    let filled : c.fill.new.self ≡ replicate (length c.args.marks.now) 0 = search rules in
    let all = redrawn_touches drawn touches in
    let first = c.first.ensures.step in
    record {
      can = can_start (length drawn) all s (first_round (length drawn) all s) c.asked-asked.ensures.in_range
          c.requires.drawn.few refl;
      done_is = ap (λ (x : Step). x.done) first;
      from_is = ap (λ (x : Step). x.from) first;
      rate_is = ap (λ (x : Step). x.rate) first;
      listed_is = c.first.ensures.listed ∙ c.count_in.ensures.count ∙ sym (count_places drawn c.mark_lacking.new.listed)
          ∙ ap (λ (l : List ℕ). length l) (sym c.mark_lacking.ensures.listed);
      pages_are = c.mark_lacking.ensures.listed;
      scan = subst (λ n. IsScan pages touches s.start s.start n c.fill.new.self) (sym c.first.ensures.next)
          (begun pages touches s.start c.before-next.result c.fill.new.self c.before-next.ensures.bound
          (subst (λ t. IsPoint touches t c.before-next.result) start c.before-next.ensures.point)
          (filled ∙ ap (λ n. replicate n 0) c.requires.marks));
    }
