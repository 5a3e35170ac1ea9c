use Rattle.std.proofs.Common.{◌^◌, arith}
use Rattle.link_clock.proofs.Changes.{sound}
use Rattle.link_clock.proofs.Clocks.{clock_early}
use Rattle.link_clock.proofs.Stops.{stop_early, stop_before, sum_fits}
use Rattle.link_clock.proofs.planning.by_ticks.Goals as goal

pub tick_of-stop-requires : goal.tick_of-stop-requires
tick_of-stop-requires c =
    let link = c.args.link.now in
    omega (arith, c.requires.early, clock_early link (sound link c.rate.ensures.in_range) (2 ^ 40))

pub sent_before-requires : goal.sent_before-requires
sent_before-requires c =
    let link = c.args.link.now in
    omega (
      arith,
      stop_early link (sound link c.rate.ensures.in_range) c.args.sums.now.stop c.tick_of-stop.result c.requires.early
          c.tick_of-stop.ensures,
    )

pub when_sent-requires : goal.when_sent-requires
when_sent-requires c =
    let link = c.args.link.now in
    let is = sound link c.rate.ensures.in_range in
    let early = stop_early link is c.args.sums.now.stop c.tick_of-stop.result c.requires.early c.tick_of-stop.ensures in
    omega (
      arith,
      sum_fits link is c.tick_of-stop.result c.args.sums.now.left early c.requires.few,
      c.sent_before.ensures.value,
    )
