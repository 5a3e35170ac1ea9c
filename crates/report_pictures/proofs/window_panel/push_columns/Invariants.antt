use Rattle.std.proofs.Common.{◌≡◌, ◌++◌}
use Rattle.report_pictures.specs.WindowBars.{column_of}
use Rattle.report_pictures.proofs.Merging.{marks_after}
use Rattle.report_pictures.proofs.window_panel.push_columns.Given as goal

abbrev pub invariant-loop-window : goal.invariant-loop-window
invariant-loop-window l = l.text.items ++ marks_after l.panel (column_of l.axis l.length) l.last l.window-index
    l.windows
    ≡ l.fn.text.items ++ marks_after l.panel (column_of l.axis l.length) l.fn.first 0 l.windows
