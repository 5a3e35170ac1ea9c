use Rattle.std.proofs.Common.{◌≡◌, ap, append_assoc}
use Rattle.migration_model.specs.Sweeps.{SweepLine}
use Rattle.trace_views.proofs.sweep_document.write_case.Goals as goal

pub returns : goal.returns
returns c =
    let settings : c.line.inside.settings ≡ c.args.line.now.settings =
    ap (λ (l : SweepLine). l.settings) c.line.view_is in
    rw (
      c.in_ok-end_object.ensures,
      c.in_ok-write_known.ensures,
      c.in_ok-write_outcome.ensures,
      c.in_ok-write_settings.ensures,
      settings,
      c.in_ok-number_member.ensures,
      c.in_ok-begin_object.ensures,
    )
    (simp append_assoc)
