use Rattle.std.proofs.Common.{◌≡◌, ◌++◌, take}
use Rattle.std.specs.List.{flat_map}
use Rattle.sweep_report.specs.Lines.{window_line}
use Rattle.sweep_report.proofs.report.push_windows.Given as goal

abbrev pub invariant-loop-window : goal.invariant-loop-window
invariant-loop-window l = l.text.items ≡ l.fn.text.items ++ flat_map window_line (take l.window-index l.windows)
