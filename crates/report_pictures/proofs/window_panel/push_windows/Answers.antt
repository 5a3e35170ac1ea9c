use Rattle.std.proofs.Common.{append_assoc}
use Rattle.report_pictures.specs.ReportCharts.{windows_marks}
use Rattle.report_pictures.proofs.window_panel.push_windows.Goals as goal

pub returns : goal.returns
unfolding windows_marks
returns c = rw (
  c.in_ok-push_bars.ensures,
  c.in_ok-push_windows_frame.ensures,
  c.panel_of_windows-panel.ensures,
) (simp append_assoc)
