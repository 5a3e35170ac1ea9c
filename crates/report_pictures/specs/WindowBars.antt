-- The bars of windows. Windows that fall in the same units of a picture are drawn as one column, in which the window
-- with the most pages stands for all. This project's own.
use Rattle.std.specs.Prelude.{ℕ, ◌+◌, ◌-◌, nat_lt, max, if◌then◌else◌, List, [], ◌∷◌, ◌++◌, codes, map}
use Rattle.std.specs.List.{flat_map}
use Rattle.migration_model.specs.Windows.{WindowRow}
use Rattle.report_pictures.specs.Labels.{place_on}
use Rattle.report_pictures.specs.Panels.{bar_height, bar_mark, parted_of}
use Rattle.report_pictures.specs.Spans.{window_from, window_to}
use Rattle.report_pictures.specs.declared.axis.Axis.{Axis}
use Rattle.report_pictures.specs.declared.panel.Panel.{Panel}
use Rattle.report_pictures.specs.declared.window_panel.Column.{Column}

-- the column of a window: it is a unit wide or more
abbrev pub column_of : Axis → ℕ → WindowRow → Column
column_of axis length row = record {
  from = place_on axis (window_from length row);
  to = max (place_on axis (window_to length row)) (place_on axis (window_from length row) + 1);
  window = row;
}

-- one column for two
abbrev pub joined : Column → Column → Column
joined column next = record {
  from = column.from;
  to = max column.to next.to;
  window = if nat_lt column.window.pages next.window.pages then next.window else column.window;
}

-- the columns that are drawn: one that begins before the column before it has ended is joined to that
abbrev pub columns_from : Column → List Column → List Column
columns_from last [] = last ∷ []
columns_from last (next ∷ rest) =
    if nat_lt next.from last.to then columns_from (joined last next) rest else last ∷ columns_from next rest

-- the bar of a column: its window's pages that were written in the previous window, earlier, and never before
abbrev pub earlier_of : WindowRow → ℕ
earlier_of row = row.pages - row.fresh - row.again

abbrev pub earlier_height : Panel → WindowRow → ℕ
earlier_height panel row = bar_height panel row.again + bar_height panel (earlier_of row)

unfoldable pub window_marks : Panel → ℕ × ℕ → WindowRow → List ℕ
window_marks panel place row = bar_mark (codes "again") panel place 0 row.again
    ++ (bar_mark (codes "earlier") panel place (bar_height panel row.again) (earlier_of row)
    ++ bar_mark (codes "fresh") panel place (earlier_height panel row) row.fresh)

abbrev pub column_marks : Panel → Column → List ℕ
column_marks panel column = window_marks panel (parted_of column.from column.to) column.window

abbrev pub columns_marks : Panel → List Column → List ℕ
columns_marks panel columns = flat_map (column_marks panel) columns

-- the bars of all windows
abbrev pub window_bars : Axis → ℕ → Panel → List WindowRow → List ℕ
window_bars axis length panel [] = []
window_bars axis length panel (row ∷ rows) =
    columns_marks panel (columns_from (column_of axis length row) (map (column_of axis length) rows))
