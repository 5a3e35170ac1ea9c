use Rattle.std.proofs.Common.{◌∙◌, [], ◌∷◌, ◌++◌, ℕ, refl, sym, ap, arith}
use Rattle.predictions.specs.Agreements.{counts_of}
use Rattle.predictions.proofs.Started.{started_more}
use Rattle.predictions.proofs.agreement.starting.start_counts.Goals as goal

pub loop-number-init : goal.loop-number-init
loop-number-init g c = record {
  whole = omega arith;
  known = omega arith;
  converging = omega arith;
  kept = omega arith;
  counts = record { courses = []; started = tt; counts_are = refl };
}

pub loop-number-preserved : goal.loop-number-preserved
loop-number-preserved g c =
    let scale = c.args.measure.now.scale in
    let limits = c.args.measure.now.limits in
    let pages = g.T.Timeline.pages c.args.timeline.now in
    let touches = g.T.Timeline.touches c.args.timeline.now in
    let before = c.loop-number.invariant in
    let made = c.course_in-course in
    let courses = before.counts.courses ++ made.result ∷ [] in
    let last = c.last_tick-last.ensures.value in
    let counted = before.counts.counts_are
    ∙ ap (λ (n : ℕ). counts_of scale limits n before.counts.courses) (sym last) in
    record {
      whole = omega (arith, c.with-counts.ensures.whole, before.whole);
      known = omega (arith, c.with-counts.ensures.known, before.known);
      converging = omega (arith, c.with-counts.ensures.converging, before.converging);
      kept = omega (arith, c.with-counts.ensures.kept, before.kept);
      counts = record {
        courses = courses;
        started = started_more c.args.measure.now.manner pages touches scale c.args.settings.now c.loop-number.number
            c.last_tick-last.result c.spread_case-case.result before.counts.courses made.result last
            c.spread_case-case.ensures before.counts.started made.ensures;
        counts_are = c.with-counts.ensures.counts before.counts.courses counted
            ∙ ap (λ (n : ℕ). counts_of scale limits n courses) last;
      };
    }
