use Rattle.std.proofs.Common.{◌≡◌, ◌+◌, ◌*◌, ◌∙◌, [], ◌∷◌, ◌++◌, refl, ap, arith}
use Rattle.predictions.specs.Redrawn.Draws.{state_after}
use Rattle.predictions.proofs.Drawing.{redrawn_more, state_start}
use Rattle.predictions.proofs.redrawn.sums.summed.Goals as goal

pub loop-plan-init : goal.loop-plan-init
loop-plan-init g c = record {
  state = state_start (0 * c.args.scale.now.sampled) (omega arith);
  count = refl;
  low = record {
    sent = omega arith;
    sent_squares = omega arith;
    time = omega arith;
    time_squares = omega arith;
    pause = omega arith;
    pause_squares = omega arith;
  };
  sums = record {
    courses = [];
    redrawn = tt;
    sums_are = record {
      sent = record { sum_is = refl; squares_are = refl };
      time = record { sum_is = refl; squares_are = refl };
      pause = record { sum_is = refl; squares_are = refl };
    };
  };
}

pub drawn_course-after-requires-clause-before : goal.drawn_course-after-requires-clause-before
drawn_course-after-requires-clause-before g c =
    record { steps = c.loop-plan._plan * c.args.scale.now.sampled; state_is = c.loop-plan.invariant.state }

pub loop-plan-preserved : goal.loop-plan-preserved
loop-plan-preserved g c =
    let scale = c.args.scale.now in
    let pages = g.T.Timeline.pages c.args.timeline.now in
    let touches = g.T.Timeline.touches c.args.timeline.now in
    let plan = c.loop-plan._plan in
    let steps = plan * scale.sampled in
    let before = c.loop-plan.invariant in
    let made = c.drawn_course-after in
    let ends : steps + scale.sampled ≡ (plan + 1) * scale.sampled = omega arith in
    record {
      state = made.ensures.state steps before.state ∙ ap state_after ends;
      count = omega (arith, c.with-sums.ensures.count, before.count);
      low = c.with-sums.ensures.low;
      sums = record {
        courses = before.sums.courses ++ made.result.1 ∷ [];
        redrawn = redrawn_more c.args.manner scale.sampled pages plan touches scale c.args.settings.now
            before.sums.courses made.result.1 before.sums.redrawn (made.ensures.course steps before.state);
        sums_are = c.with-sums.ensures.sums before.sums.courses before.sums.sums_are;
      };
    }
