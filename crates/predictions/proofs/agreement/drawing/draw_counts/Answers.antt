use Rattle.std.proofs.Common.{◌≡◌, ◌+◌, ◌*◌, ◌∙◌, [], ◌∷◌, ◌++◌, ℕ, refl, sym, ap, arith}
use Rattle.predictions.specs.Agreements.{counts_of}
use Rattle.predictions.specs.Redrawn.Draws.{state_after}
use Rattle.predictions.proofs.Drawing.{redrawn_more, state_start}
use Rattle.predictions.proofs.agreement.drawing.draw_counts.Goals as goal

pub loop-plan-init : goal.loop-plan-init
loop-plan-init g c = record {
  state = state_start (0 * c.args.measure.now.scale.sampled) (omega arith);
  whole = omega arith;
  known = omega arith;
  converging = omega arith;
  kept = omega arith;
  counts = record { courses = []; redrawn = tt; counts_are = refl };
}

pub drawn_course-after-requires-clause-before : goal.drawn_course-after-requires-clause-before
drawn_course-after-requires-clause-before g c =
    record { steps = c.loop-plan._plan * c.args.measure.now.scale.sampled; state_is = c.loop-plan.invariant.state }

pub loop-plan-preserved : goal.loop-plan-preserved
loop-plan-preserved g c =
    let scale = c.args.measure.now.scale in
    let limits = c.args.measure.now.limits in
    let pages = g.T.Timeline.pages c.args.timeline.now in
    let touches = g.T.Timeline.touches c.args.timeline.now in
    let plan = c.loop-plan._plan in
    let steps = plan * scale.sampled in
    let before = c.loop-plan.invariant in
    let made = c.drawn_course-after in
    let ends : steps + scale.sampled ≡ (plan + 1) * scale.sampled = omega arith in
    let courses = before.counts.courses ++ made.result.1 ∷ [] in
    let last = c.last_tick-last.ensures.value in
    let counted = before.counts.counts_are
    ∙ ap (λ (n : ℕ). counts_of scale limits n before.counts.courses) (sym last) in
    record {
      state = made.ensures.state steps before.state ∙ ap state_after ends;
      whole = omega (arith, c.with-counts.ensures.whole, before.whole);
      known = omega (arith, c.with-counts.ensures.known, before.known);
      converging = omega (arith, c.with-counts.ensures.converging, before.converging);
      kept = omega (arith, c.with-counts.ensures.kept, before.kept);
      counts = record {
        courses = courses;
        redrawn = redrawn_more c.args.measure.now.manner scale.sampled pages plan touches scale c.args.settings.now
            before.counts.courses made.result.1 before.counts.redrawn (made.ensures.course steps before.state);
        counts_are = c.with-counts.ensures.counts before.counts.courses counted
            ∙ ap (λ (n : ℕ). counts_of scale limits n courses) last;
      };
    }
