use Rattle.std.proofs.Common.{◌≡◌, ◌+◌, ◌-◌, ◌*◌, ◌/◌, arith}
use Rattle.predictions.specs.Units.Limits.{link_rate}
use Rattle.view_commands.specs.Nearest.{HasDowntime}
use Rattle.view_commands.proofs.NearestLemmas.{downtime_iff, nearest_between}
use Rattle.view_commands.proofs.nearest.nearest_downtime.Goals as goal

pub returns : goal.returns
returns c =
    let scale = c.args.scale.now in
    let limits = c.args.limits.now in
    let most = limits.reserve + ((65_535_999 / link_rate scale limits + 1) * scale.tick - 1) in
    let one = rw c.rate.ensures at c.nearest_within.ensures in
    let is = rw c.tick.ensures at one in
    nearest_between (HasDowntime scale limits) limits.reserve most limits.downtime c.nearest_within.result (omega arith)
    (λ k. downtime_iff scale limits k (omega (arith, c.guest-in_range.ensures.in_range.tick_low))
    (omega (arith, c.requires.0)))
    is
