-- Writable working sets by windows of ticks. The writable working set is that of Clark and others, "Live Migration of
-- Virtual Machines" (2005), section 4: the pages written so often that sending them early is wasted. Windows, their
-- rows, and hot pages as the measure of that set are this project's own.
use Rattle.std.specs.Prelude.{ℕ, ◌+◌, ◌-◌, ◌*◌, ◌/◌, ◌&&◌, nat_lt, nat_le, not, Bool, List, map}
use Rattle.std.specs.List.{count_by, filter, range_with_len}
use Rattle.migration_model.specs.Trace.{last_by}
use Rattle.migration_model.specs.Touches.{GuestTouch, is_written}
use Rattle.migration_model.specs.Rates.{MigrationSettings}

-- how many writes there are at a tick from `from` on and before `to`
abbrev pub writes_between : List GuestTouch → ℕ → ℕ → ℕ
writes_between touches from to = count_by (λ touch. nat_le from touch.tick && nat_lt touch.tick to) touches

-- window j of windows of w ticks is the set of the pages that are written from tick j * w on and before (j + 1) * w
abbrev pub is_in_window : List GuestTouch → ℕ → ℕ → ℕ → Bool
is_in_window touches w j page = is_written touches (j * w) ((j + 1) * w) page

-- whether a page is written in the window before window j; for window 0 there is no such tick, so no page
abbrev pub is_in_window_before : List GuestTouch → ℕ → ℕ → ℕ → Bool
is_in_window_before touches w j page = is_written touches ((j - 1) * w) (j * w) page

-- whether a page is written in any window before window j
abbrev pub is_in_earlier_window : List GuestTouch → ℕ → ℕ → ℕ → Bool
is_in_earlier_window touches w j page = is_written touches 0 (j * w) page

-- what a report says of a window: its number, how many writes and how many pages are in it, how many of those pages are
-- also in the previous window, and how many in no earlier window
pub record WindowRow : Type 0 where
  pub number : ℕ
  pub writes : ℕ
  pub pages : ℕ
  pub again : ℕ
  pub fresh : ℕ

-- the row of window j, over the writes of a guest of `pages` pages
unfoldable pub row_of : List GuestTouch → ℕ → ℕ → ℕ → WindowRow
row_of touches pages w j = record {
  number = j;
  writes = writes_between touches (j * w) ((j + 1) * w);
  pages = count_by (λ page. is_in_window touches w j page) (range_with_len 0 pages);
  again = count_by (λ page. is_in_window touches w j page && is_in_window_before touches w j page)
      (range_with_len 0 pages);
  fresh = count_by (λ page. is_in_window touches w j page && not (is_in_earlier_window touches w j page))
      (range_with_len 0 pages);
}

-- how many windows there are up to that of the last write
abbrev pub windows_of : List GuestTouch → ℕ → ℕ
windows_of touches w = last_by (λ touch. touch.tick) touches / w + 1

-- the rows of the windows with at least one write, in ascending order
unfoldable pub rows_of : List GuestTouch → ℕ → ℕ → List WindowRow
rows_of touches pages w = filter (λ row. nat_le 1 row.writes)
    (map (row_of touches pages w) (range_with_len 0 (windows_of touches w)))

-- in how many windows a page is
unfoldable pub windows_with : List GuestTouch → ℕ → ℕ → ℕ
windows_with touches w page = count_by (λ j. is_in_window touches w j page) (range_with_len 0 (windows_of touches w))

-- the hot pages, in ascending order: those that are in at least `hot` windows
unfoldable pub hot_pages_of : List GuestTouch → ℕ → ℕ → ℕ → List ℕ
hot_pages_of touches pages w hot = filter (λ page. nat_le hot (windows_with touches w page)) (range_with_len 0 pages)

-- what a report says of working sets
pub record WorkingSets : Type 0 where
  pub windows : List WindowRow
  pub hot : List ℕ

-- what a report says of the working sets of a guest of `pages` pages with these touches
abbrev pub working_sets_of : ℕ → List GuestTouch → MigrationSettings → WorkingSets
working_sets_of pages touches s = record {
  windows = rows_of touches pages s.window;
  hot = hot_pages_of touches pages s.window s.hot;
}
