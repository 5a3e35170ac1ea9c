use Rattle.std.proofs.Common.{◌≡◌, ap, append_assoc}
use Rattle.migration_model.specs.Sweeps.{SweepLine}
use Rattle.sweep_report.proofs.cases.push_case.Goals as goal

pub returns : goal.returns
returns c =
    let settings : c.line.inside.settings ≡ c.args.line.now.settings =
    ap (λ (l : SweepLine). l.settings) c.line.view_is in
    rw (c.in_ok-end_line.ensures, c.in_ok-push_outcome.ensures, c.in_ok-push_settings.ensures, settings)
    (simp append_assoc)
