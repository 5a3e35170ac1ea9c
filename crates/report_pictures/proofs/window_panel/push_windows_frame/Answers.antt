use Rattle.std.proofs.Common.{append_assoc}
use Rattle.report_pictures.specs.ReportCharts.{windows_frame}
use Rattle.report_pictures.proofs.window_panel.push_windows_frame.Goals as goal

pub returns : goal.returns
unfolding windows_frame
returns c = rw (
  c.in_ok-push_window_keys.ensures,
  c.in_ok-push_frame.ensures,
) (simp append_assoc)
