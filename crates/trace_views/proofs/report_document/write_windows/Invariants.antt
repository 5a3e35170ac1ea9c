use Rattle.std.proofs.Common.{◌≡◌, ◌++◌, take}
use Rattle.std.specs.List.{flat_map}
use Rattle.trace_views.specs.Json.{window_object}
use Rattle.trace_views.proofs.report_document.write_windows.Given as goal

abbrev pub invariant-loop-window : goal.invariant-loop-window
invariant-loop-window l = l.out ≡ l.fn.out ++ flat_map (window_object l.scale) (take l.window-index l.windows)
