-- The state of one pass over writes, and its steps. No contract of a public call mentions it.
use Rattle.std.specs.Prelude.{◌≡◌, ℕ, ◌+◌, ◌*◌, ◌/◌, ◌^◌, ◌<◌, ◌≤◌, ◌&&◌, ◌⊎◌, length, ◌==◌, nat_lt, nat_le, not, Bool, cond}
use Rattle.std.specs.Prelude.{if◌then◌else◌, List, [], ◌∷◌, ◌++◌, slice_index_or, slice_set, replicate}
use Rattle.std.specs.Prelude.{Option, Some, None}
use Rattle.std.specs.List.{filter, range_with_len}
use Rattle.migration_model.specs.Windows.{WindowRow, WorkingSets}
use Rattle.working_sets.specs.declared.counting.OpenWindow.{OpenWindow}
use Rattle.working_sets.specs.declared.counting.PageSeen.{PageSeen}

-- in which windows a page is: 1 more than the number of the last one, or 0, and how many they are
pub record PageMark : Type 0 where
  pub last : ℕ
  pub windows : ℕ

-- The length of a window, the tick at which the open window ends, the rows of the windows that are closed, the row so
-- far of the open one, and the marks of the pages.
pub record Counting : Type 0 where
  pub window : ℕ
  pub end : ℕ
  pub rows : List WindowRow
  pub row : WindowRow
  pub marks : List PageMark

-- the row of a window with no write
abbrev pub blank : ℕ → WindowRow
blank number = record { number = number; writes = 0; pages = 0; again = 0; fresh = 0 }

abbrev pub unmarked : PageMark
unmarked = record { last = 0; windows = 0 }

-- how much a test adds to a count
abbrev pub one_if : Bool → ℕ
one_if b = cond b 1 0

-- rows with one more, if it has a write
abbrev pub with_row : List WindowRow → WindowRow → List WindowRow
with_row rows row = if nat_le 1 row.writes then rows ++ row ∷ [] else rows

-- a row after one more write to a page, by where the open window, the previous one and the page's last one stand
abbrev pub counted_by : WindowRow → ℕ → ℕ → ℕ → WindowRow
counted_by row here before last = record {
  number = row.number;
  writes = row.writes + 1;
  pages = row.pages + one_if (not (last == here));
  again = row.again + one_if ((last == before) && not (last == 0));
  fresh = row.fresh + one_if (last == 0);
}

-- a row after one more write, to a page whose mark has this last window
abbrev pub counted : WindowRow → ℕ → WindowRow
counted row last = counted_by row (row.number + 1) row.number last

-- a page's mark after a write in the window of this number
abbrev pub marked : PageMark → ℕ → PageMark
marked mark number = record { last = number + 1; windows = mark.windows + one_if (not (mark.last == number + 1)) }

-- the state as it is for a tick: the open window is the one that holds it
abbrev pub turned : Counting → ℕ → Counting
turned s tick =
    if nat_lt tick s.end then s
    else record s {
      end = (tick / s.window + 1) * s.window;
      rows = with_row s.rows s.row;
      row = blank (tick / s.window);
    }

-- the mark of a page
abbrev pub mark_of : Counting → ℕ → PageMark
mark_of s page = slice_index_or s.marks page unmarked

-- the state after a write to the page in the open window
abbrev pub written : Counting → ℕ → Counting
written s page = record s {
  row = counted s.row (mark_of s page).last;
  marks = slice_set s.marks page (marked (mark_of s page) s.row.number);
}

-- the state before any write
abbrev pub started : ℕ → ℕ → Counting
started window pages = record {
  window = window;
  end = window;
  rows = [];
  row = blank 0;
  marks = replicate pages unmarked;
}

-- the counts of a row can grow by 1
pub record HasRoom (row : WindowRow) : Type 0 where
  pub number : row.number + 1 < 2 ^ 64
  pub writes : row.writes + 1 < 2 ^ 32
  pub pages : row.pages + 1 < 2 ^ 32
  pub again : row.again + 1 < 2 ^ 32
  pub fresh : row.fresh + 1 < 2 ^ 32

-- what the state must be for a write at this tick to this page
pub record CanAdd (s : Counting) (tick page : ℕ) : Type 0 where
  pub page_low : page < length s.marks
  pub tick_low : tick < 2 ^ 40
  pub window_some : 1 ≤ s.window
  pub window_few : s.window ≤ 2 ^ 40
  pub row : HasRoom s.row
  pub mark : (mark_of s page).windows + 1 < 2 ^ 64

-- ---- by the open window

-- what is kept of a page before any write
abbrev pub unseen : PageSeen
unseen = record { last = 0; windows = 0 }

-- the first window, without writes
abbrev pub first_window : ℕ → OpenWindow
first_window w = record { end = w; place = 1; before = 0; row = blank 0 }

-- the window that holds a tick, without writes, opened after another
abbrev pub window_at : ℕ → ℕ → OpenWindow → OpenWindow
window_at w tick it = record {
  end = (tick / w + 1) * w;
  place = it.place + 1;
  before = if tick / w == it.row.number + 1 then it.place else 0;
  row = blank (tick / w);
}

-- the open window as it is for a tick
abbrev pub turned_open : ℕ → ℕ → OpenWindow → OpenWindow
turned_open w tick it = if nat_lt tick it.end then it else window_at w tick it

-- the row that is closed then: that of the open window, if the tick is after it
abbrev pub row_closed : ℕ → OpenWindow → Option WindowRow
row_closed tick it = if nat_lt tick it.end then None else Some it.row

-- what must hold for the window of a tick to be opened after another
pub record CanOpen (w tick : ℕ) (it : OpenWindow) : Type 0 where
  pub tick_low : tick < 2 ^ 40
  pub window_some : 1 ≤ w
  pub window_few : w ≤ 2 ^ 40
  pub number_low : it.row.number + 1 < 2 ^ 64
  pub place_low : it.place + 1 < 2 ^ 32

-- what is kept of a page after a write in the window of a place
abbrev pub seen_at : PageSeen → ℕ → PageSeen
seen_at seen place = record { last = place; windows = seen.windows + one_if (not (seen.last == place)) }

-- what a write to a page needs of the open window's row and of what is kept of pages
pub record CanCount (row : WindowRow) (marks : List PageSeen) (page : ℕ) : Type 0 where
  pub page_low : page < length marks
  pub room : HasRoom row
  pub windows_low : (slice_index_or marks page unseen).windows + 1 < 2 ^ 32

-- what is kept after a write to a page in the window of a place, if nothing is counted
abbrev pub passed : List PageSeen → ℕ → ℕ → List PageSeen
passed marks page place = slice_set marks page (record (slice_index_or marks page unseen) { last = place })

-- ---- what is kept of pages, and their marks

-- the windows that were opened, by their places from 1, of which the open one is the last
pub record AreOpened (number : ℕ → ℕ) (at : OpenWindow) : Type 0 where
  pub some : 1 ≤ at.place
  pub here : number at.place ≡ at.row.number
  pub order : (i j : ℕ) → 1 ≤ i → i < j → j ≤ at.place → number i < number j
  pub before : ((at.before ≡ 0) × ((i : ℕ) → 1 ≤ i → i < at.place → number i + 1 < number at.place))
      ⊎ ((1 ≤ at.before) × (at.before + 1 ≡ at.place) × (number at.before + 1 ≡ number at.place))

-- what is kept of a page says what its mark says
pub record SaysMark (number : ℕ → ℕ) (place : ℕ) (mark : PageMark) (seen : PageSeen) : Type 0 where
  pub windows : seen.windows ≡ mark.windows
  pub high : seen.windows ≤ seen.last
  pub low : seen.last ≤ place
  pub last : ((seen.last ≡ 0) × (mark.last ≡ 0)) ⊎ ((1 ≤ seen.last) × (mark.last ≡ number seen.last + 1))

-- what is kept of all pages says what these marks say, once so many touches are counted
pub record SayMarks (index : ℕ) (at : OpenWindow) (marks : List PageMark) (seen : List PageSeen) : Type 0 where
  pub number : ℕ → ℕ
  pub opened : AreOpened number at
  pub few : at.place ≤ index + 1
  pub len : length seen ≡ length marks
  pub each : (page : ℕ) → page < length seen
      → SaysMark number at.place (slice_index_or marks page unmarked) (slice_index_or seen page unseen)

-- ---- the end

-- the pages whose marks have at least `hot` windows, in ascending order
abbrev pub hot_of : List PageMark → ℕ → List ℕ
hot_of marks hot = filter (λ page. nat_le hot (slice_index_or marks page unmarked).windows)
    (range_with_len 0 (length marks))

-- the same of what is kept of pages
abbrev pub hot_in : List PageSeen → ℕ → List ℕ
hot_in seen hot = filter (λ page. nat_le hot (slice_index_or seen page unseen).windows)
    (range_with_len 0 (length seen))

-- the tables after the last write
abbrev pub finished : Counting → ℕ → WorkingSets
finished s hot = record { windows = with_row s.rows s.row; hot = hot_of s.marks hot }
