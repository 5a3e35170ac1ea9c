use Rattle.std.proofs.Common.{◌≡◌, take}
use Rattle.report_pictures.specs.Spans.{axis_over}
use Rattle.report_pictures.proofs.axis.Axis.with_windows.Given as goal

abbrev pub invariant-loop-window : goal.invariant-loop-window
invariant-loop-window l = l.axis ≡ axis_over l.fn.self l.length (take l.window-index l.windows)
