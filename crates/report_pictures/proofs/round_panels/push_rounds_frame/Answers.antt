use Rattle.std.proofs.Common.{append_assoc}
use Rattle.report_pictures.specs.ReportCharts.{rounds_frame}
use Rattle.report_pictures.proofs.round_panels.push_rounds_frame.Goals as goal

pub returns : goal.returns
unfolding rounds_frame
returns c = rw (
  c.in_ok-push_frame-2.ensures,
  c.in_ok-push_stop_keys.ensures,
  c.in_ok-push_bar_keys.ensures,
  c.in_ok-push_frame.ensures,
) (simp append_assoc)
