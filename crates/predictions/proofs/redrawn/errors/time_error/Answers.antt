use Rattle.std.proofs.Common.{◌-◌, ℕ, subst}
use Rattle.predictions.specs.Redrawn.Errors.{IsErrorOf}
use Rattle.predictions.proofs.Drawing.{time_is}
use Rattle.predictions.proofs.redrawn.errors.time_error.Goals as goal

pub returns : goal.returns
returns c numbers count is =
    let share = c.share_above.ensures in
    let root = c.root_above_quotient.ensures in
    let error = c.root_above_quotient.result in
    let made = time_is numbers c.args.times c.apart.result (c.guest-guest.result - c.sampled.result)
    c.guest-guest.result c.share_above.result error count is c.apart.ensures share.enough share.least root.enough
    root.least in
    subst (λ (g : ℕ). IsErrorOf numbers (g - c.args.scale.now.sampled) g error) c.guest-guest.ensures.value
    (subst (λ (m : ℕ). IsErrorOf numbers (c.guest-guest.result - m) c.guest-guest.result error) c.sampled.ensures made)
