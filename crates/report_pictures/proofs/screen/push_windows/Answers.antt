use Rattle.std.proofs.Common.{append_assoc}
use Rattle.report_pictures.specs.Screens.{windows_text}
use Rattle.report_pictures.proofs.screen.push_windows.Goals as goal

pub returns : goal.returns
unfolding windows_text
returns c = rw (
  c.in_ok-push_windows_table.ensures,
  c.in_ok-push_window_key.ensures,
  c.in_ok-push_words.ensures,
  c.in_ok-push_field.ensures,
) (simp append_assoc)
