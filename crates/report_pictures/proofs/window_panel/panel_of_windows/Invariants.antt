use Rattle.std.proofs.Common.{◌≡◌, take}
use Rattle.std.specs.List.{fold}
use Rattle.std.specs.Prelude.{max}
use Rattle.migration_model.specs.Windows.{WindowRow}
use Rattle.report_pictures.proofs.window_panel.panel_of_windows.Given as goal

abbrev pub invariant-loop-window : goal.invariant-loop-window
invariant-loop-window l =
    l.most ≡ fold (λ most (row : WindowRow). max row.pages most) 1 (take l.window-index l.windows)
