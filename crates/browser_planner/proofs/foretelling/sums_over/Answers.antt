use Rattle.std.proofs.Common.{arith}
use Rattle.look_planner.proofs.Bounds.{low_sums_lem}
use Rattle.browser_planner.proofs.foretelling.sums_over.Goals as goal

pub returns-clause-low : goal.returns-clause-low
returns-clause-low c =
    let settings = c.look_settings-looks.ensures in
    let low = low_sums_lem c.args.log.now.pages c.args.log.now.touches c.look_settings-looks.result c.look_sums.result
    (omega (arith, c.page_count-pages.ensures.pages, c.page_count-pages.ensures.few)) settings.in_range
    c.look_sums.ensures in
    omega (arith, low.stop_high, settings.in_range.end_high)
