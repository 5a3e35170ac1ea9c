use Rattle.std.proofs.Common.{◌≡◌, Option, Some, arith, ap, refl, ◌∙◌}
use Rattle.predictions.specs.declared.units.error.UnitsError.{UnitsError}
use Rattle.view_commands.proofs.RefusalLemmas.{downtime_left, link_taken, reserve_longer}
use Rattle.view_commands.proofs.ranges.limits_refused.Goals as goal

pub nearest_first-nearest-requires : goal.nearest_first-nearest-requires
nearest_first-nearest-requires c = link_taken c.args.scale.now c.args.limits.now c.args.error.now c.requires
    (λ is. absurd (cc (is, c.in-First.is)))

pub nearest_downtime-requires : goal.nearest_downtime-requires
nearest_downtime-requires c =
    link_taken c.args.scale.now c.args.limits.now c.args.error.now c.requires c.in_default.not-Link

pub returns-in-Reserve : goal.returns-in-Reserve
returns-in-Reserve c =
    let is = c.requires ∙ ap (λ (e : UnitsError). Some e) c.in-Reserve.is in
    let longer = reserve_longer c.args.scale.now c.args.limits.now is in
    (is, refl, record { is_taken = omega arith; none_nearer = λ k low. omega (arith, longer, low) })

pub returns-in_default : goal.returns-in_default
returns-in_default c =
    let left = downtime_left c.args.scale.now c.args.limits.now c.args.error.now c.requires c.in_default.not-Link
    c.in_default.not-First c.in_default.not-Reserve in
    (c.requires ∙ ap (λ (e : UnitsError). Some e) left, refl, c.nearest_downtime.ensures)
