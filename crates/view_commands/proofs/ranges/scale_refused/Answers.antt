use Rattle.std.proofs.Common.{◌≡◌, Option, Some, ap, refl, ◌∙◌}
use Rattle.predictions.specs.Units.Scales.{scale_with}
use Rattle.predictions.specs.declared.units.error.UnitsError.{UnitsError}
use Rattle.view_commands.proofs.RefusalLemmas.{sampled_left}
use Rattle.view_commands.proofs.ranges.scale_refused.Goals as goal

pub returns-in_default : goal.returns-in_default
returns-in_default c =
    let scale = scale_with c.args.tick c.args.page c.args.sample.0 c.args.sample.1 in
    let is = sampled_left scale c.args.error.now c.requires c.in_default.not-Tick c.in_default.not-Page in
    (c.requires ∙ ap (λ (e : UnitsError). Some e) is, refl, c.nearest_sample.ensures)
