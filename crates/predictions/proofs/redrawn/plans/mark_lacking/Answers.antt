use Rattle.std.proofs.Common.{rules, ◌≡◌, ◌∙◌, ◌≤◌, ℕ, Option, IfSome, Some, None, length, replicate, sym, ap}
use Rattle.std.proofs.Common.{subst}
use Rattle.migration_model.specs.Rates.{MigrationSettings}
use Rattle.migration_model.specs.Rounds.{pages_lacking}
use Rattle.look_planner.specs.DrawnPages.{redrawn_touches}
use Rattle.round_planner.proofs.Scans.{begun}
use Rattle.look_planner.proofs.DrawnPages.{all_places, marked_places}
use Rattle.predictions.proofs.redrawn.plans.mark_lacking.Goals as goal

pub returns-in-Some : goal.returns-in-Some
returns-in-Some g c =
    let pages = g.T.Timeline.pages c.args.timeline.now in
    let touches = g.T.Timeline.touches c.args.timeline.now in
    let drawn = c.args.drawn.now in
    let s = c.args.settings.now in
    let asked = c.asked.view_is ∙ c.asked-asked.ensures.value in
    let start : c.asked.inside.start ≡ s.start = ap (λ (x : MigrationSettings). x.start) asked in
    let base : Some c.in-Some.base ≡ s.base = sym c.in-Some.is ∙ ap (λ (x : MigrationSettings). x.base) asked in
    let early : c.in-Some.base ≤ s.start = subst (λ (o : Option ℕ). IfSome o (λ tick. tick ≤ s.start)) (sym base)
    c.asked-asked.ensures.in_range.base_high in
    let filled : c.fill.new.self ≡ replicate (length c.args.listed.now) 0 = search rules in
    let before = c.before-next.ensures in
    let scan = begun pages touches c.in-Some.base c.before-next.result c.fill.new.self before.bound before.point
    (filled ∙ ap (λ n. replicate n 0) c.requires.listed) in
    let walked = c.mark_until.ensures.walked c.in-Some.base c.in-Some.base (subst (λ t. c.in-Some.base ≤ t) (sym start)
    early) scan in
    record {
      listed = ap (λ (o : Option ℕ). pages_lacking (length drawn) (redrawn_touches drawn touches) o s.start) (sym base)
          ∙ ap (λ t. pages_lacking (length drawn) (redrawn_touches drawn touches) (Some c.in-Some.base) t) (sym start)
          ∙ marked_places pages touches drawn c.in-Some.base c.asked.inside.start c.mark_until.result
          c.mark_until.new.marks c.requires.drawn walked;
    }

pub returns-in-None : goal.returns-in-None
returns-in-None g c =
    let touches = g.T.Timeline.touches c.args.timeline.now in
    let drawn = c.args.drawn.now in
    let s = c.args.settings.now in
    let asked = c.asked.view_is ∙ c.asked-asked.ensures.value in
    let none : None ≡ s.base = sym c.in-None.is ∙ ap (λ (x : MigrationSettings). x.base) asked in
    record {
      listed = ap (λ (o : Option ℕ). pages_lacking (length drawn) (redrawn_touches drawn touches) o s.start) (sym none)
          ∙ all_places drawn c.mark_drawn.new.listed c.mark_drawn.ensures.each;
    }
