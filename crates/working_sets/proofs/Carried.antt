-- Pieces that are counted side by side.
use Rattle.std.proofs.Common.{◌≡◌, ℕ, suc, zero, ltb, ◌+◌, ◌*◌, ◌/◌, ◌<◌, ◌≤◌, Bool, true, false, cond, eqb, not, leb, ◌&&◌, List}
use Rattle.std.proofs.Common.{[], ◌∷◌, ◌++◌, Option, None, Some, Result, drop, length, get_or, set, replicate, refl, sym, ap, subst, ◌∙◌}
use Rattle.std.proofs.Common.{inl, inr, arith}
use Rattle.std.proofs.Math.Nat.{lt-div-mul-add, mul-le-mul_right}
use Rattle.std.proofs.lemmas.Bool.{cases_eq, cond_both}
use Rattle.std.proofs.lemmas.List.{append-nil, append_assoc, get_or-replicate}
use Rattle.std.proofs.lemmas.List.{length-append, length-replicate, length-set}
use Rattle.std.proofs.lemmas.List.Sums.{fold_more}
use Rattle.migration_model.specs.Rates.{MigrationSettings, AreSettings}
use Rattle.migration_model.specs.Touches.{GuestTouch, IsTouch, AreTouches, no_touch}
use Rattle.migration_model.specs.Windows.{WindowRow}
use Rattle.working_sets.specs.Counting.{CanAdd, Counting, HasRoom, PageMark, blank, counted, first_window}
use Rattle.working_sets.specs.Counting.{mark_of, marked, one_if, unseen}
use Rattle.working_sets.specs.Counting.{row_closed, started, turned, turned_open, unmarked, window_at, with_row, written}
use Rattle.working_sets.specs.Pieces.{Begins, Carries, FitsRow, added, head_of, pushed, row_with, rows_with}
use Rattle.working_sets.specs.Pieces.{AreMade, IsJoined, IsMade, cut_at, state_at, stepped}
use Rattle.working_sets.specs.declared.counting.OpenWindow.{OpenWindow}
use Rattle.working_sets.specs.declared.counting.PageSeen.{PageSeen}
use Rattle.working_sets.specs.declared.error.TablesError.{TablesError}
use Rattle.working_sets.specs.declared.joining.Joined.{Joined}
use Rattle.working_sets.specs.declared.pieces.Piece.{Piece}
use Rattle.working_sets.proofs.Seen.{set_elsewhere, set_here}
use Rattle.working_sets.proofs.Rows.{IsSmall, IsSmall-row_of, same_row}
use Rattle.working_sets.proofs.Whole.{PassesTo, one_more_added, ready_to_add, start_of_pass}

-- ---- the states of one pass

pub state_more : (w pages n : ℕ) (touches : List GuestTouch) (touch : GuestTouch) → n < length touches
    → touch ≡ get_or touches n no_touch
    → state_at w pages touches (n + 1) ≡ written (turned (state_at w pages touches n) touch.tick) touch.page
unfolding state_at
state_more w pages n touches touch low is =
    fold_more stepped (started w pages) touches n no_touch low
    ∙ ap (λ (t : GuestTouch). written (turned (state_at w pages touches n) t.tick) t.page) (sym is)

pub state_first : (w pages : ℕ) (touches : List GuestTouch) → state_at w pages touches 0 ≡ started w pages
unfolding state_at
state_first w pages touches = refl

pub passes_at : (pages : ℕ) (touches : List GuestTouch) (s : MigrationSettings) (n : ℕ) → AreSettings s
    → AreTouches pages touches → n ≤ length touches → PassesTo pages touches s n (state_at s.window pages touches n)
passes_at pages touches s zero are fits low =
    start_of_pass pages touches s _ s.window pages are (state_first s.window pages touches) refl refl
passes_at pages touches s (suc n) are fits low =
    let more : n + 1 ≡ suc n = omega arith in
    let within : n < length touches = omega arith in
    let before = passes_at pages touches s n are fits (omega arith) in
    let touch = get_or touches n no_touch in
    subst (λ m. PassesTo pages touches s m (state_at s.window pages touches m)) more
    (one_more_added pages touches s n touch no_touch (state_at s.window pages touches n) _ touch.tick touch.page fits
    before within refl refl refl (state_more s.window pages n touches touch within refl))

pub ready_at : (pages n tick page : ℕ) (touches : List GuestTouch) (s : MigrationSettings) (touch : GuestTouch)
    → AreSettings s → AreTouches pages touches → pages ≤ 65_536 → n < length touches
    → touch ≡ get_or touches n no_touch → tick ≡ touch.tick → page ≡ touch.page
    → CanAdd (state_at s.window pages touches n) tick page
ready_at pages n tick page touches s touch are fits few low is tick_is page_is =
    ready_to_add pages touches s n touch no_touch (state_at s.window pages touches n) tick page fits few are
    (passes_at pages touches s n are fits (omega arith)) low is tick_is page_is

pub fits_at : (pages n : ℕ) (touches : List GuestTouch) (s : MigrationSettings) (now : Counting)
    → AreTouches pages touches → pages ≤ 65_536 → PassesTo pages touches s n now → FitsRow now.row
fits_at pages n touches s now fits few p =
    let q = p.passes in
    let small : IsSmall (length q.done) pages now.row =
    rw q.shows.row_is (IsSmall-row_of now.window pages now.row.number q.done) in
    let shorter : length q.done ≤ length touches = omega (arith, length-append q.done (drop n touches), ap length q.joined) in
    record {
      writes = omega (arith, small.writes_high, fits.few);
      pages = omega (arith, small.pages_high);
      again = omega (arith, small.again_high);
      fresh = omega (arith, small.fresh_high);
    }

one_if_low : (b : Bool) → one_if b ≤ 1
one_if_low true = omega arith
one_if_low false = omega arith

-- a page is in no more windows than there are touches
mark_few : (n page at_page : ℕ) (s : Counting) → at_page < length s.marks → (mark_of s page).windows ≤ n
    → (mark_of (written s at_page) page).windows ≤ n + 1
mark_few n page at_page s low few = elim (cases_eq at_page page) [
  | inl same ↦
      let there = marked (mark_of s at_page) s.row.number in
      let here = ap (λ (m : PageMark). m.windows) (set_here s.marks at_page page there unmarked same low) in
      let old : (mark_of s at_page).windows ≡ (mark_of s page).windows = ap (λ p. (mark_of s p).windows) same in
      let one = one_if_low (not (eqb (mark_of s at_page).last (s.row.number + 1))) in
      omega (arith, here, old, one, few)
  | inr other ↦
      let there = marked (mark_of s at_page) s.row.number in
      let kept = ap (λ (m : PageMark). m.windows) (set_elsewhere s.marks at_page page there unmarked other) in
      omega (arith, kept, few)
]

pub windows_few : (pages n page : ℕ) (touches : List GuestTouch) (s : MigrationSettings) → AreSettings s
    → AreTouches pages touches → n ≤ length touches → page < pages
    → (mark_of (state_at s.window pages touches n) page).windows ≤ n
windows_few pages zero page touches s are fits low within =
    let first = ap (λ (x : Counting). (mark_of x page).windows) (state_first s.window pages touches) in
    let none = ap (λ (m : PageMark). m.windows) (get_or-replicate pages page unmarked unmarked within) in
    omega (arith, first, none)
windows_few pages (suc n) page touches s are fits low within =
    let more : n + 1 ≡ suc n = omega arith in
    let early : n < length touches = omega arith in
    let touch = get_or touches n no_touch in
    let now = state_at s.window pages touches n in
    let before = windows_few pages n page touches s are fits (omega arith) within in
    let passes = passes_at pages touches s n are fits (omega arith) in
    let len = passes.passes.shows.len in
    let is : IsTouch pages touch = fits.each n no_touch early in
    let turned_len : length (turned now touch.tick).marks ≡ length now.marks =
    cond_both (ltb touch.tick now.end) _ _ (λ (x : Counting). length x.marks ≡ length now.marks) (λ _. refl) (λ _. refl) in
    let turned_few : (mark_of (turned now touch.tick) page).windows ≤ n =
    cond_both (ltb touch.tick now.end) _ _ (λ (x : Counting). (mark_of x page).windows ≤ n) (λ _. before) (λ _. before) in
    let next = mark_few n page touch.page (turned now touch.tick) (omega (arith, turned_len, len, is.page)) turned_few in
    let state = state_more s.window pages n touches touch early refl in
    let same = ap (λ (x : Counting). (mark_of x page).windows) state in
    let at_more = ap (λ m. (mark_of (state_at s.window pages touches m) page).windows) more in
    omega (arith, at_more, same, next)

-- ---- where a piece begins

pub begins_first : (w pages : ℕ) (touches : List GuestTouch) (at : OpenWindow) (marks : List PageMark)
    → at ≡ first_window w → marks ≡ replicate pages unmarked
    → Begins (state_at w pages touches 0) at marks
begins_first w pages touches at marks at_is marks_are =
    rw (state_first w pages touches, at_is, marks_are) (record {
      end_is = refl;
      row_is = refl;
      len = refl;
      last = λ page low. refl;
      windows = λ page low. ap (λ (m : PageMark). m.windows) (get_or-replicate pages page unmarked unmarked
          (omega (arith, length-replicate pages unmarked)));
    })

begins_either : (b : Bool) (w tick : ℕ) (now : Counting) (at : OpenWindow) (marks : List PageMark) → now.window ≡ w
    → Begins now at marks
    → Begins (cond b now (record now {
      end = (tick / now.window + 1) * now.window;
      rows = with_row now.rows now.row;
      row = blank (tick / now.window);
    })) (cond b at (window_at w tick at)) marks
begins_either true w tick now at marks w_is c = c
begins_either false w tick now at marks w_is c = record {
  end_is = ap (λ v. (tick / v + 1) * v) (sym w_is);
  row_is = ap (λ v. blank (tick / v)) (sym w_is);
  len = c.len;
  last = c.last;
  windows = c.windows;
}

begins_turned : (w tick : ℕ) (now : Counting) (at : OpenWindow) (marks : List PageMark) → now.window ≡ w
    → Begins now at marks → Begins (turned now tick) (turned_open w tick at) marks
begins_turned w tick now at marks w_is c =
    subst (λ e. Begins (turned now tick) (cond (ltb tick e) at (window_at w tick at)) marks) (sym c.end_is)
    (begins_either (ltb tick now.end) w tick now at marks w_is c)

-- marks after a write to a page in the window of a number, if nothing is counted
abbrev pub marks_passed : List PageMark → ℕ → ℕ → List PageMark
marks_passed marks page number = set marks page (record (get_or marks page unmarked) { last = number + 1 })

begins_passed : (page : ℕ) (now : Counting) (at : OpenWindow) (marks : List PageMark) → page < length marks
    → Begins now at marks → Begins (written now page) at (marks_passed marks page at.row.number)
begins_passed page now at marks low c =
    let new : PageMark = record (get_or marks page unmarked) { last = at.row.number + 1 } in
    let there = marked (mark_of now page) now.row.number in
    let number : at.row.number ≡ now.row.number = ap (λ (r : WindowRow). r.number) c.row_is in
    record {
      end_is = c.end_is;
      row_is = c.row_is;
      len = length-set marks page new ∙ c.len ∙ sym (length-set now.marks page there);
      last = λ at_page within. elim (cases_eq page at_page) [
        | inl same ↦ ap (λ (m : PageMark). m.last) (set_here marks page at_page new unmarked same low)
            ∙ ap (λ n. n + 1) number
            ∙ sym (ap (λ (m : PageMark). m.last)
            (set_here now.marks page at_page there unmarked same (omega (arith, c.len))))
        | inr other ↦ ap (λ (m : PageMark). m.last) (set_elsewhere marks page at_page new unmarked other)
            ∙ c.last at_page (omega (arith, length-set marks page new))
            ∙ sym (ap (λ (m : PageMark). m.last) (set_elsewhere now.marks page at_page there unmarked other))
      ];
      windows = λ at_page within. elim (cases_eq page at_page) [
        | inl same ↦ ap (λ (m : PageMark). m.windows) (set_here marks page at_page new unmarked same low)
            ∙ c.windows page low
        | inr other ↦ ap (λ (m : PageMark). m.windows) (set_elsewhere marks page at_page new unmarked other)
            ∙ c.windows at_page (omega (arith, length-set marks page new))
      ];
    }

pub begins_more : (w pages n tick page : ℕ) (touches : List GuestTouch) (touch : GuestTouch) (at : OpenWindow)
    (turn : OpenWindow) (marks new : List PageMark)
    → (state_at w pages touches n).window ≡ w → n < length touches → touch ≡ get_or touches n no_touch
    → tick ≡ touch.tick → page ≡ touch.page → page < length marks
    → Begins (state_at w pages touches n) at marks → turn ≡ turned_open w tick at
    → new ≡ marks_passed marks page turn.row.number
    → Begins (state_at w pages touches (n + 1)) turn new
begins_more w pages n tick page touches touch at turn marks new w_is low is tick_is page_is within c turn_is new_is =
    let now = state_at w pages touches n in
    let after : state_at w pages touches (n + 1) ≡ written (turned now tick) page =
    state_more w pages n touches touch low is ∙ (λ i. written (turned now (sym tick_is i)) (sym page_is i)) in
    let there = begins_turned w tick now at marks w_is c in
    rw (after, new_is, turn_is)
    (begins_passed page (turned now tick) (turned_open w tick at) marks within there)

-- ---- a piece on its way

pub carries_first : (now : Counting) (at : OpenWindow) (marks : List PageMark) → FitsRow now.row → Begins now at marks
    → Carries now now [] at marks
carries_first now at marks fits c =
    let same : now.row ≡ added now.row at.row =
    same_row now.row (added now.row (blank now.row.number)) refl (omega arith) (omega arith) (omega arith) (omega arith)
    ∙ ap (λ r. added now.row r) (sym c.row_is) in
    record {
      end_is = c.end_is;
      number = ap (λ (r : WindowRow). r.number) c.row_is;
      rows_are = refl;
      row_is = same;
      fits = subst FitsRow same fits;
      len = c.len;
      each = λ page low. record { last = c.last page low; windows = omega (arith, c.windows page low) };
    }

with_row_behind : (b : Bool) (xs ys : List WindowRow) (row : WindowRow)
    → cond b ((xs ++ ys) ++ row ∷ []) (xs ++ ys) ≡ xs ++ cond b (ys ++ row ∷ []) ys
with_row_behind true xs ys row = append_assoc xs ys (row ∷ [])
with_row_behind false xs ys row = refl

rows_pushed : (old rows : List WindowRow) (last row : WindowRow)
    → with_row (rows_with old last rows) (row_with last rows row) ≡ rows_with old last (pushed rows row)
rows_pushed old [] last row = sym (append-nil (with_row old (added last row)))
rows_pushed old (head ∷ rows) last row = with_row_behind (leb 1 row.writes) (with_row old (added last head)) rows row

row_pushed : (rows : List WindowRow) (last row next : WindowRow) → row_with last (pushed rows row) next ≡ next
row_pushed [] last row next = refl
row_pushed (head ∷ rows) last row next = refl

head_pushed : (rows : List WindowRow) (row next : WindowRow) → head_of (pushed rows row) next ≡ head_of rows row
head_pushed [] row next = refl
head_pushed (head ∷ rows) row next = refl

-- the rows of a piece after a turn, which may close one
abbrev pub pushed_if : List WindowRow → Option WindowRow → List WindowRow
pushed_if rows None = rows
pushed_if rows (Some row) = pushed rows row

carries_either : (b : Bool) (w tick : ℕ) (before now : Counting) (rows : List WindowRow) (at : OpenWindow)
    (marks : List PageMark) → now.window ≡ w → Carries before now rows at marks
    → Carries before (cond b now (record now {
      end = (tick / now.window + 1) * now.window;
      rows = with_row now.rows now.row;
      row = blank (tick / now.window);
    })) (pushed_if rows (cond b None (Some at.row))) (cond b at (window_at w tick at)) marks
carries_either true w tick before now rows at marks w_is c = c
carries_either false w tick before now rows at marks w_is c = record {
  end_is = ap (λ v. (tick / v + 1) * v) (sym w_is);
  number = ap (λ v. tick / v) (sym w_is);
  rows_are = (λ i. with_row (c.rows_are i) (c.row_is i)) ∙ rows_pushed before.rows rows before.row at.row;
  row_is = ap (λ v. blank (tick / v)) w_is ∙ sym (row_pushed rows before.row at.row (blank (tick / w)));
  fits = subst (λ r. FitsRow (added before.row r)) (sym (head_pushed rows at.row (blank (tick / w)))) c.fits;
  len = c.len;
  each = c.each;
}

carries_turned : (w tick : ℕ) (before now : Counting) (rows : List WindowRow) (at : OpenWindow) (marks : List PageMark)
    → now.window ≡ w → Carries before now rows at marks
    → Carries before (turned now tick) (pushed_if rows (row_closed tick at)) (turned_open w tick at) marks
carries_turned w tick before now rows at marks w_is c =
    subst (λ e. Carries before (turned now tick) (pushed_if rows (cond (ltb tick e) None (Some at.row)))
    (cond (ltb tick e) at (window_at w tick at)) marks) (sym c.end_is)
    (carries_either (ltb tick now.end) w tick before now rows at marks w_is c)

row_counted : (rows : List WindowRow) (old row : WindowRow) (last : ℕ) → row.number ≡ (row_with old rows row).number
    → counted (row_with old rows row) last ≡ row_with old rows (counted row last)
row_counted [] old row last same =
    let here = one_if (not (eqb last (row.number + 1))) in
    let pages : old.pages + row.pages + one_if (not (eqb last (old.number + 1))) ≡ old.pages + (row.pages + here) =
    ap (λ n. old.pages + row.pages + one_if (not (eqb last (n + 1)))) (sym same) ∙ omega arith in
    let again : old.again + row.again + one_if (eqb last old.number && not (eqb last 0))
    ≡ old.again + (row.again + one_if (eqb last row.number && not (eqb last 0))) =
    ap (λ n. old.again + row.again + one_if (eqb last n && not (eqb last 0))) (sym same) ∙ omega arith in
    same_row _ _ refl (omega arith) pages again (omega arith)
row_counted (head ∷ rows) old row last same = refl

fits_counted : (rows : List WindowRow) (old row more : WindowRow) → FitsRow (added old (head_of rows row))
    → FitsRow (row_with old rows more) → FitsRow (added old (head_of rows more))
fits_counted [] old row more fits new = new
fits_counted (head ∷ rows) old row more fits new = fits

carries_written : (page : ℕ) (before now : Counting) (rows : List WindowRow) (at : OpenWindow) (marks : List PageMark)
    → page < length marks → FitsRow (written now page).row → Carries before now rows at marks
    → Carries before (written now page) rows (record at { row = counted at.row (get_or marks page unmarked).last })
    (set marks page (marked (get_or marks page unmarked) at.row.number))
carries_written page before now rows at marks low fits c =
    let seen = get_or marks page unmarked in
    let own = c.each page low in
    let new = marked seen at.row.number in
    let there = marked (mark_of now page) now.row.number in
    let number : at.row.number ≡ (row_with before.row rows at.row).number =
    c.number ∙ ap (λ (r : WindowRow). r.number) c.row_is in
    let row : (written now page).row ≡ row_with before.row rows (counted at.row seen.last) =
    (λ i. counted (c.row_is i) (sym own.last i)) ∙ row_counted rows before.row at.row seen.last number in
    let counts : one_if (not (eqb (mark_of now page).last (now.row.number + 1)))
    ≡ one_if (not (eqb seen.last (at.row.number + 1))) =
    (λ i. one_if (not (eqb (sym own.last i) (sym c.number i + 1)))) in
    record {
      end_is = c.end_is;
      number = c.number;
      rows_are = c.rows_are;
      row_is = row;
      fits = fits_counted rows before.row at.row (counted at.row seen.last) c.fits (subst FitsRow row fits);
      len = length-set marks page new ∙ c.len ∙ sym (length-set now.marks page there);
      each = λ q within. elim (cases_eq page q) [
        | inl same ↦
            let here = set_here marks page q new unmarked same low in
            let that = set_here now.marks page q there unmarked same (omega (arith, c.len)) in
            let old : mark_of before page ≡ mark_of before q = ap (mark_of before) same in
            record {
              last = ap (λ (m : PageMark). m.last) here ∙ ap (λ n. n + 1) c.number
                  ∙ sym (ap (λ (m : PageMark). m.last) that);
              windows = omega (
                arith,
                ap (λ (m : PageMark). m.windows) here,
                ap (λ (m : PageMark). m.windows) that,
                ap (λ (m : PageMark). m.windows) old,
                own.windows,
                counts,
              );
            }
        | inr other ↦
            let here = set_elsewhere marks page q new unmarked other in
            let that = set_elsewhere now.marks page q there unmarked other in
            let is = c.each q (omega (arith, length-set marks page new)) in
            record {
              last = ap (λ (m : PageMark). m.last) here ∙ is.last ∙ sym (ap (λ (m : PageMark). m.last) that);
              windows = ap (λ (m : PageMark). m.windows) that ∙ is.windows
                  ∙ ap (λ n. (mark_of before q).windows + n) (sym (ap (λ (m : PageMark). m.windows) here));
            }
      ];
    }

pub room_carried : (rows : List WindowRow) (old row now : WindowRow) → now ≡ row_with old rows row → row.number ≡ now.number
    → HasRoom now → HasRoom row
room_carried [] old row now is number room = record {
  number = omega (arith, number, room.number);
  writes = omega (arith, ap (λ (r : WindowRow). r.writes) is, room.writes);
  pages = omega (arith, ap (λ (r : WindowRow). r.pages) is, room.pages);
  again = omega (arith, ap (λ (r : WindowRow). r.again) is, room.again);
  fresh = omega (arith, ap (λ (r : WindowRow). r.fresh) is, room.fresh);
}
room_carried (head ∷ rows) old row now is number room = subst HasRoom is room

-- a touch is counted
pub carries_more : (w pages n tick page : ℕ) (touches : List GuestTouch) (touch : GuestTouch) (before : Counting)
    (rows closed : List WindowRow) (at turn new : OpenWindow) (marks seen : List PageMark)
    → (state_at w pages touches n).window ≡ w → n < length touches → touch ≡ get_or touches n no_touch
    → tick ≡ touch.tick → page ≡ touch.page → page < length marks
    → FitsRow (state_at w pages touches (n + 1)).row → Carries before (state_at w pages touches n) rows at marks
    → closed ≡ pushed_if rows (row_closed tick at) → turn ≡ turned_open w tick at
    → new ≡ record turn { row = counted turn.row (get_or marks page unmarked).last }
    → seen ≡ set marks page (marked (get_or marks page unmarked) turn.row.number)
    → Carries before (state_at w pages touches (n + 1)) closed new seen
carries_more w pages n tick page touches touch before rows closed at turn new marks seen w_is low is tick_is page_is
    within fits c closed_is turn_is new_is seen_is =
    let now = state_at w pages touches n in
    let after : state_at w pages touches (n + 1) ≡ written (turned now tick) page =
    state_more w pages n touches touch low is ∙ (λ i. written (turned now (sym tick_is i)) (sym page_is i)) in
    let there = carries_turned w tick before now rows at marks w_is c in
    let more = carries_written page before (turned now tick) (pushed_if rows (row_closed tick at))
    (turned_open w tick at) marks within (subst (λ (s : Counting). FitsRow s.row) after fits) there in
    rw (after, closed_is, new_is, seen_is, turn_is) more

-- ---- pieces that are joined

pub cut_low : (touches : List GuestTouch) (each number : ℕ) → cut_at touches each number ≤ length touches
cut_low touches each number = omega arith

pub pages_at : (pages n : ℕ) (touches : List GuestTouch) (s : MigrationSettings) → AreSettings s
    → AreTouches pages touches → n ≤ length touches → length (state_at s.window pages touches n).marks ≡ pages
pages_at pages n touches s are fits low = (passes_at pages touches s n are fits low).passes.shows.len

pub cut_order : (touches : List GuestTouch) (each number : ℕ)
    → cut_at touches each number ≤ cut_at touches each (number + 1)
cut_order touches each number =
    let more : number * each ≤ (number + 1) * each = mul-le-mul_right each (omega arith) in
    omega arith

pub joined_first : (w pages each : ℕ) (touches : List GuestTouch) (joined : Joined) → joined.rows.items ≡ []
    → joined.row ≡ blank 0 → joined.marks.items ≡ replicate pages unseen
    → IsJoined (state_at w pages touches (cut_at touches each 0)) joined
joined_first w pages each touches joined rows row marks =
    let none : cut_at touches each 0 ≡ 0 = omega arith in
    let at : state_at w pages touches (cut_at touches each 0) ≡ started w pages =
    ap (state_at w pages touches) none ∙ state_first w pages touches in
    rw at (record {
      rows = rows;
      row = row;
      len = ap length marks ∙ length-replicate pages unseen ∙ sym (length-replicate pages unmarked);
      windows = λ page low.
          let within : page < pages = omega (arith, low, ap length marks, length-replicate pages unseen) in
          (λ i. (get_or (marks i) page unseen).windows)
          ∙ ap (λ (m : PageSeen). m.windows) (get_or-replicate pages page unseen unseen within)
          ∙ sym (ap (λ (m : PageMark). m.windows) (get_or-replicate pages page unmarked unmarked within));
    })

pub made_from : (w pages each number : ℕ) (touches : List GuestTouch) (made : List (Result Piece TablesError))
    → ((i : ℕ) (d : Result Piece TablesError) → i < length made
    → IsMade w pages touches each (number + i) (get_or made i d))
    → AreMade w pages touches each number made
made_from w pages each number touches [] is = tt
made_from w pages each number touches (first ∷ made) is =
    let here : number + 0 ≡ number = omega arith in
    let rest : (i : ℕ) (d : Result Piece TablesError) → i < length made
    → IsMade w pages touches each (number + 1 + i) (get_or made i d) = λ i d low.
    let next : number + suc i ≡ number + 1 + i = omega arith in
    subst (λ n. IsMade w pages touches each n (get_or made i d)) next (is (suc i) d (omega arith)) in (
      subst (λ n. IsMade w pages touches each n first) here (is 0 first (omega arith)),
      made_from w pages each (number + 1) touches made rest,
    )

-- all pieces together have every touch
pub cut_all : (touches : List GuestTouch) (pieces : ℕ) → 1 ≤ pieces
    → cut_at touches (length touches / pieces + 1) pieces ≡ length touches
cut_all touches pieces some =
    let high : length touches < length touches / pieces * pieces + pieces = lt-div-mul-add some in
    let same : pieces * (length touches / pieces + 1) ≡ length touches / pieces * pieces + pieces = omega arith in
    omega arith
