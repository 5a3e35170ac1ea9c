use Rattle.std.proofs.Common.{◌≡◌, ◌++◌, take}
use Rattle.std.specs.List.{flat_map}
use Rattle.report_pictures.specs.MeasuredScreens.{window_line}
use Rattle.report_pictures.proofs.units_screen.push_window_lines.Given as goal

abbrev pub invariant-loop-window : goal.invariant-loop-window
invariant-loop-window l = l.text.items ≡ l.fn.text.items
    ++ flat_map (window_line l.style l.scale l.ticks l.most) (take l.window-index l.windows)
