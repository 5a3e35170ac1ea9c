use Rattle.std.proofs.Common.{◌*◌, ◌^◌, ap, arith}
use Rattle.std.proofs.lemmas.Nat.{mul-le}
use Rattle.predictions.specs.Redrawn.Errors.{pause_of, time_of}
use Rattle.predictions.specs.declared.course.Course.{Course}
use Rattle.predictions.proofs.Drawing.{courses_count}
use Rattle.predictions.proofs.redrawn.errors.sample_errors.Goals as goal

pub invariant_of-result : goal.invariant_of-result
invariant_of-result g c =
    let high = mul-le c.sent_error.result c.page.result (2 ^ 64) 4_096 c.sent_error.ensures.small
    (omega (arith, c.page.ensures, c.sent_error.ensures.in_range.page_high)) in
    omega (arith, high)

pub returns : goal.returns
returns g c =
    let pages = g.T.Timeline.pages c.args.timeline.now in
    let touches = g.T.Timeline.touches c.args.timeline.now in
    let s = c.args.settings.now in
    let scale = c.args.scale.now in
    let made = c.summed-sums.ensures.sums in
    let count = courses_count c.args.manner scale.sampled pages 20 touches scale s made.courses in
    record {
      courses = made.courses;
      redrawn = made.redrawn;
      sent = c.sent_error.result;
      sent_is = c.sent_error.ensures.error _ (count (λ (course : Course). course.total) made.redrawn) made.sums_are.sent;
      bytes_is = ap (λ n. c.sent_error.result * n) c.page.ensures;
      time_is = c.time_error.ensures _ (count (time_of scale s) made.redrawn) made.sums_are.time;
      downtime_is = c.time_error-2.ensures _ (count (pause_of scale) made.redrawn) made.sums_are.pause;
    }
