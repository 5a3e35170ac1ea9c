use Rattle.std.proofs.Common.{◌≡◌, ◌∙◌, ◌<◌, ℕ, List, arith, subst, sym}
use Rattle.std.specs.List.{All}
use Rattle.predictions.specs.Redrawn.Draws.{drawn_after}
use Rattle.predictions.specs.Redrawn.Errors.{IsRedrawn}
use Rattle.predictions.proofs.Drawing.{drawn_low}
use Rattle.predictions.proofs.redrawn.courses.drawn_course.Goals as goal

pub redrawn_course-course-requires-clause-drawn : goal.redrawn_course-course-requires-clause-drawn
redrawn_course-course-requires-clause-drawn g c =
    let sampled = c.args.scale.now.sampled in
    let pages = g.T.Timeline.pages c.args.timeline.now in
    let steps = c.requires.before.steps in
    let drawn : c.split_at.result.0.now ≡ drawn_after sampled pages steps = c.split_at.ensures.front
    ∙ c.draw-after.ensures.drawn steps c.requires.before.state_is
    ∙ (λ i. drawn_after (c.sampled-sampled.ensures i) (c.page_count.ensures.pages i) steps) in
    record {
      few = omega (
        arith,
        c.split_at.ensures.front_len,
        c.draw-after.ensures.few,
        c.sampled-sampled.ensures,
        c.requires.sampled.2,
      );
      each = subst (λ (l : List ℕ). All (λ page. page < pages) l) (sym drawn) (drawn_low sampled pages steps);
    }

pub returns-clause-course : goal.returns-clause-course
returns-clause-course g c steps from =
    let scale = c.args.scale.now in
    let pages = g.T.Timeline.pages c.args.timeline.now in
    let touches = g.T.Timeline.touches c.args.timeline.now in
    let drawn : c.split_at.result.0.now ≡ drawn_after scale.sampled pages steps = c.split_at.ensures.front
    ∙ c.draw-after.ensures.drawn steps from
    ∙ (λ i. drawn_after (c.sampled-sampled.ensures i) (c.page_count.ensures.pages i) steps) in
    subst (λ (l : List ℕ). IsRedrawn c.args.manner touches scale c.args.settings.now l c.redrawn_course-course.result)
    drawn c.redrawn_course-course.ensures.course
