use Rattle.std.proofs.Common.{◌≡◌, ◌++◌, take}
use Rattle.std.specs.List.{flat_map}
use Rattle.migration_model.specs.Windows.{WindowRow}
use Rattle.report_pictures.specs.Bars.{window_parts}
use Rattle.report_pictures.specs.Columns.{row_text}
use Rattle.report_pictures.specs.Screens.{window_numbers}
use Rattle.report_pictures.proofs.screen.push_window_rows.Given as goal

abbrev pub invariant-loop-window : goal.invariant-loop-window
invariant-loop-window l = l.text.items ≡ l.fn.text.items
    ++ flat_map (λ (row : WindowRow). row_text l.style l.widths l.most (window_numbers row) (window_parts row))
    (take l.window-index l.windows)
