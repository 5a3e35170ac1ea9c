use Rattle.std.proofs.Common.{append_assoc}
use Rattle.report_pictures.specs.ReportCharts.{bar_keys}
use Rattle.report_pictures.proofs.round_panels.push_bar_keys.Goals as goal

pub returns : goal.returns
unfolding bar_keys
returns c = rw (
  c.in_ok-push_key-3.ensures,
  c.in_ok-push_key-2.ensures,
  c.in_ok-push_key.ensures,
) (simp append_assoc)
