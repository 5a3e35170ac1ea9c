use Rattle.std.proofs.Common.{◌≡◌, take}
use Rattle.migration_model.specs.Windows.{WindowRow}
use Rattle.report_pictures.specs.Columns.{most_of}
use Rattle.report_pictures.proofs.screen.greatest_of_windows.Given as goal

abbrev pub invariant-loop-window : goal.invariant-loop-window
invariant-loop-window l = record {
  number : l.mosts-inside.number ≡ most_of (λ (row : WindowRow). row.number) (take l.window-index l.windows);
  writes : l.mosts-inside.writes ≡ most_of (λ (row : WindowRow). row.writes) (take l.window-index l.windows);
  pages : l.mosts-inside.pages ≡ most_of (λ (row : WindowRow). row.pages) (take l.window-index l.windows);
  again : l.mosts-inside.again ≡ most_of (λ (row : WindowRow). row.again) (take l.window-index l.windows);
  fresh : l.mosts-inside.fresh ≡ most_of (λ (row : WindowRow). row.fresh) (take l.window-index l.windows);
}
