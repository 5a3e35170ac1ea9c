use Rattle.std.proofs.Common.{arith}
use Rattle.link_clock.proofs.Changes.{sound}
use Rattle.link_clock.proofs.Stops.{sums_within}
use Rattle.link_clock.proofs.planning.link_sums.Goals as goal

pub by_ticks-requires-clause-early : goal.by_ticks-requires-clause-early
by_ticks-requires-clause-early g c =
    let link = c.args.link.now in
    let are = rw c.by_clock.ensures.value at c.look_sums-sums.ensures in
    (sums_within _ _ link c.args.settings.now c.look_sums-sums.result
    (omega (arith, c.page_count.ensures.pages, c.page_count.ensures.few)) (sound link c.by_clock.ensures.is_link)
    c.by_clock.ensures.in_range are).0

pub by_ticks-requires-clause-few : goal.by_ticks-requires-clause-few
by_ticks-requires-clause-few g c =
    let link = c.args.link.now in
    let are = rw c.by_clock.ensures.value at c.look_sums-sums.ensures in
    (sums_within _ _ link c.args.settings.now c.look_sums-sums.result
    (omega (arith, c.page_count.ensures.pages, c.page_count.ensures.few)) (sound link c.by_clock.ensures.is_link)
    c.by_clock.ensures.in_range are).1
