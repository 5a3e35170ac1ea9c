-- Rows of windows in memory that is lent. The contracts of public calls cite only the first part.
use Rattle.std.specs.Prelude.{ℕ, ◌+◌, ◌≤◌, ◌⊎◌, nat_le, if◌then◌else◌, List, ◌++◌}
use Rattle.std.specs.Prelude.{length, drop, map, slice_set}
use Rattle.migration_model.specs.Touches.{GuestTouch}
use Rattle.migration_model.specs.Windows.{WindowRow, windows_of}
use Rattle.working_sets.specs.declared.lending.WindowNumbers.{WindowNumbers}

-- the row of a window, as it is lent
abbrev pub numbers_of : WindowRow → WindowNumbers
numbers_of row = record {
  number = row.number;
  writes = row.writes;
  pages = row.pages;
  again = row.again;
  fresh = row.fresh;
}

-- a buffer with these rows over its front, and after them what was there
abbrev pub rows_over : List WindowRow → List WindowNumbers → List WindowNumbers
rows_over rows old = map numbers_of rows ++ drop (length rows) old

-- there are at least as many slots as writes, or as windows up to that of the last write
abbrev pub HasRows : List GuestTouch → ℕ → ℕ → Type 0
HasRows touches w slots = (length touches ≤ slots) ⊎ (windows_of touches w ≤ slots)

-- ---- a pass, on its way

-- the slot of the next row, and the buffer, after a row that is put only if it has a write
abbrev pub count_after : ℕ → WindowRow → ℕ
count_after count row = if nat_le 1 row.writes then count + 1 else count

abbrev pub rows_after : List WindowNumbers → ℕ → WindowRow → List WindowNumbers
rows_after rows count row = if nat_le 1 row.writes then slice_set rows count (numbers_of row) else rows
