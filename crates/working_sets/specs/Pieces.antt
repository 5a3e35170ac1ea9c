-- Pieces of a trace, which workers count side by side. Each worker begins with the marks that the touches before its
-- piece leave, so what it counts has only to be added. No contract of a public call mentions it.
use Rattle.std.specs.Prelude.{◌≡◌, ℕ, ◌+◌, ◌*◌, ◌^◌, ◌<◌, min, List, [], ◌∷◌, ◌++◌, length, take}
use Rattle.std.specs.Prelude.{slice_index_or, Result, IfErr, IfOk}
use Rattle.working_sets.specs.declared.error.TablesError.{TablesError}
use Rattle.working_sets.specs.declared.error.TablesError.TheVariants.{Memory}
use Rattle.std.specs.List.{fold}
use Rattle.migration_model.specs.Touches.{GuestTouch}
use Rattle.migration_model.specs.Windows.{WindowRow}
use Rattle.working_sets.specs.Counting.{Counting, blank, mark_of, started, turned, unmarked, with_row, written}
use Rattle.working_sets.specs.Counting.{PageMark, SayMarks, unseen}
use Rattle.working_sets.specs.declared.counting.OpenWindow.{OpenWindow}
use Rattle.working_sets.specs.declared.counting.PageSeen.{PageSeen}
use Rattle.working_sets.specs.declared.pieces.Piece.{Piece}
use Rattle.working_sets.specs.declared.joining.Joined.{Joined}

-- the state of one pass after one more touch, and after the first touches
abbrev pub stepped : Counting → GuestTouch → Counting
stepped s touch = written (turned s touch.tick) touch.page

unfoldable pub state_at : ℕ → ℕ → List GuestTouch → ℕ → Counting
state_at w pages touches count = fold stepped (started w pages) (take count touches)

-- the row of one window, from two counts of different touches
abbrev pub added : WindowRow → WindowRow → WindowRow
added row more = record {
  number = row.number;
  writes = row.writes + more.writes;
  pages = row.pages + more.pages;
  again = row.again + more.again;
  fresh = row.fresh + more.fresh;
}

-- the rows that a piece closes, with one more: the first is kept in any case, since it goes on with a window of before
abbrev pub pushed : List WindowRow → WindowRow → List WindowRow
pushed [] row = row ∷ []
pushed (head ∷ rows) row = head ∷ with_row rows row

-- the rows that are closed after a piece, and the open one, by those before it
abbrev pub rows_with : List WindowRow → WindowRow → List WindowRow → List WindowRow
rows_with rows last [] = rows
rows_with rows last (head ∷ closed) = with_row rows (added last head) ++ closed

abbrev pub row_with : WindowRow → List WindowRow → WindowRow → WindowRow
row_with last [] row = added last row
row_with last (head ∷ closed) row = row

-- the part of a piece in the window that is open before it
abbrev pub head_of : List WindowRow → WindowRow → WindowRow
head_of [] row = row
head_of (head ∷ rows) row = head

-- a row whose counts fit into 32 bits
pub record FitsRow (row : WindowRow) : Type 0 where
  pub writes : row.writes < 2 ^ 32
  pub pages : row.pages < 2 ^ 32
  pub again : row.again < 2 ^ 32
  pub fresh : row.fresh < 2 ^ 32

-- a page is in as many windows as before and in the piece together, and its last window is the piece's
pub record IsCarried (before now seen : PageMark) : Type 0 where
  pub last : seen.last ≡ now.last
  pub windows : now.windows ≡ before.windows + seen.windows

-- what is counted over a piece leads from the state before it to the state after it
pub record Carries (before now : Counting) (rows : List WindowRow) (at : OpenWindow)
    (marks : List PageMark) : Type 0 where
  pub end_is : at.end ≡ now.end
  pub number : at.row.number ≡ now.row.number
  pub rows_are : now.rows ≡ rows_with before.rows before.row rows
  pub row_is : now.row ≡ row_with before.row rows at.row
  pub fits : FitsRow (added before.row (head_of rows at.row))
  pub len : length marks ≡ length now.marks
  pub each : (page : ℕ) → page < length marks
      → IsCarried (mark_of before page) (mark_of now page) (slice_index_or marks page unmarked)

-- where a piece begins: nothing is counted, and marks have the last window alone
pub record Begins (now : Counting) (at : OpenWindow) (marks : List PageMark) : Type 0 where
  pub end_is : at.end ≡ now.end
  pub row_is : at.row ≡ blank now.row.number
  pub len : length marks ≡ length now.marks
  pub last : (page : ℕ) → page < length marks → (slice_index_or marks page unmarked).last ≡ (mark_of now page).last
  pub windows : (page : ℕ) → page < length marks → (slice_index_or marks page unmarked).windows ≡ 0

-- a piece begins after so many touches: what is kept of pages says what such marks say
pub record BeginsSo (now : Counting) (index : ℕ) (at : OpenWindow) (seen : List PageSeen) : Type 0 where
  pub marks : List PageMark
  pub begins : Begins now at marks
  pub says : SayMarks index at marks seen

-- what is counted over a piece up to so many touches: what is kept of pages says what such marks say
pub record CarriesSo (before now : Counting) (index : ℕ) (rows : List WindowRow) (at : OpenWindow)
    (seen : List PageSeen) : Type 0 where
  pub marks : List PageMark
  pub carries : Carries before now rows at marks
  pub says : SayMarks index at marks seen

-- the touch at which a piece begins, if each has so many touches
abbrev pub cut_at : List GuestTouch → ℕ → ℕ → ℕ
cut_at touches each number = min (number * each) (length touches)

-- this is the piece of a number
abbrev pub IsPiece : ℕ → ℕ → List GuestTouch → ℕ → ℕ → Piece → Type 0
IsPiece w pages touches each number piece = CarriesSo (state_at w pages touches (cut_at touches each number))
    (state_at w pages touches (cut_at touches each (number + 1))) (cut_at touches each (number + 1))
    piece.rows.items piece.at piece.marks.items

-- what a worker made is the piece of a number, or memory ran out
pub record IsMade (w pages : ℕ) (touches : List GuestTouch) (each number : ℕ)
    (made : Result Piece TablesError) : Type 0 where
  pub piece : IfOk made (IsPiece w pages touches each number)
  pub refusal : IfErr made (λ e. e ≡ Memory)

-- these are the pieces from a number on
abbrev pub AreMade : ℕ → ℕ → List GuestTouch → ℕ → ℕ → List (Result Piece TablesError) → Type 0
AreMade w pages touches each number [] = Unit {0}
AreMade w pages touches each number (made ∷ rest) =
    IsMade w pages touches each number made × AreMade w pages touches each (number + 1) rest

-- the pieces so far, joined, are the state after them, but for the last windows of pages
pub record IsJoined (now : Counting) (joined : Joined) : Type 0 where
  pub rows : joined.rows.items ≡ now.rows
  pub row : joined.row ≡ now.row
  pub len : length joined.marks.items ≡ length now.marks
  pub windows : (page : ℕ) → page < length joined.marks.items
      → (slice_index_or joined.marks.items page unseen).windows ≡ (mark_of now page).windows
