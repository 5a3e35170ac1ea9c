use Rattle.std.proofs.Common.{arith}
use Rattle.look_planner.proofs.Bounds.{low_sums_lem}
use Rattle.predictions.proofs.course.trace_sums.Goals as goal

pub returns-clause-low : goal.returns-clause-low
returns-clause-low g c =
    let settings = c.course_settings-looks.ensures in
    let low = low_sums_lem (g.T.Timeline.pages c.args.timeline.now) (g.T.Timeline.touches c.args.timeline.now)
    c.course_settings-looks.result c.look_sums.result
    (omega (arith, c.page_count-pages.ensures.pages, c.page_count-pages.ensures.few)) settings.in_range
    c.look_sums.ensures in
    omega (arith, low.stop_high, settings.in_range.end_high)
