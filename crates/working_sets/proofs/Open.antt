-- A pass over a timeline, by its open window, its closed rows and its marks.
use Rattle.std.proofs.Common.{◌≡◌, ℕ, ltb, ◌+◌, ◌*◌, ◌/◌, ◌^◌, ◌<◌, ◌≤◌, Bool, true, false, cond, List, [], get_or, set, replicate}
use Rattle.std.proofs.Common.{refl, sym, ap, ◌∙◌, arith, length, Option, None, Some}
use Rattle.std.proofs.Math.Nat.{mul-le-mul_left}
use Rattle.migration_model.specs.Rates.{MigrationSettings, AreSettings}
use Rattle.migration_model.specs.Touches.{GuestTouch, AreTouches}
use Rattle.migration_model.specs.Windows.{WindowRow, WorkingSets, working_sets_of}
use Rattle.working_sets.specs.Counting.{CanAdd, CanCount, CanOpen, Counting, SayMarks, counted_by, first_window, hot_in}
use Rattle.working_sets.specs.Counting.{seen_at, started, unseen}
use Rattle.working_sets.specs.Counting.{HasRoom, PageMark, blank, counted, marked}
use Rattle.working_sets.specs.Counting.{row_closed, turned, turned_open, unmarked, window_at, with_row, written}
use Rattle.working_sets.specs.declared.counting.OpenWindow.{OpenWindow}
use Rattle.working_sets.proofs.Shown.{quotient_low}
use Rattle.working_sets.specs.declared.counting.PageSeen.{PageSeen}
use Rattle.working_sets.proofs.Seen.{can_count, can_open, counts_as, hot_same, say_counted, say_first, say_turned}
use Rattle.working_sets.proofs.Whole.{PassesTo, end_of_pass, one_more_added, ready_to_add, start_of_pass}

-- the state of a pass, as definitions have it
abbrev pub state_of : ℕ → OpenWindow → List WindowRow → List PageMark → Counting
state_of w at rows marks = record { window = w; end = at.end; rows = rows; row = at.row; marks = marks }

-- rows after the row that a turn closes, if any
abbrev pub with_closed : List WindowRow → Option WindowRow → List WindowRow
with_closed rows None = rows
with_closed rows (Some row) = with_row rows row

-- what is no row is `None`
pub none_closed : (closed : Option WindowRow) → ((row : WindowRow) → closed ≡ Some row → ⊥) → closed ≡ None
none_closed None none = refl
none_closed (Some row) none = absurd (none row refl)

turned_either : (b : Bool) (w tick : ℕ) (at : OpenWindow) (rows : List WindowRow) (marks : List PageMark)
    → cond b (state_of w at rows marks) (record {
      window = w;
      end = (tick / w + 1) * w;
      rows = with_row rows at.row;
      row = blank (tick / w);
      marks = marks;
    })
    ≡ state_of w (cond b at (window_at w tick at)) (with_closed rows (cond b None (Some at.row))) marks
turned_either true w tick at rows marks = refl
turned_either false w tick at rows marks = refl

-- a turn, part by part
turned_is : (w tick : ℕ) (at : OpenWindow) (rows : List WindowRow) (marks : List PageMark)
    → turned (state_of w at rows marks) tick
    ≡ state_of w (turned_open w tick at) (with_closed rows (row_closed tick at)) marks
turned_is w tick at rows marks = turned_either (ltb tick at.end) w tick at rows marks

pub room_turned : (b : Bool) (w tick : ℕ) (at : OpenWindow) → HasRoom at.row → tick / w + 1 < 2 ^ 64
    → HasRoom (cond b at (window_at w tick at)).row
room_turned true w tick at room low = room
room_turned false w tick at room low = record {
  number = low;
  writes = omega arith;
  pages = omega arith;
  again = omega arith;
  fresh = omega arith;
}

-- the row of the open window has room for one more write
pub room_next : (b : Bool) (w tick page : ℕ) (now : Counting) (at : OpenWindow) → CanAdd now tick page → 1 ≤ w
    → HasRoom at.row → HasRoom (cond b at (window_at w tick at)).row
room_next b w tick page now at can some room =
    let quotient = quotient_low tick w in
    let number : tick / w * 1 ≤ tick / w * w = mul-le-mul_left (tick / w) some in
    room_turned b w tick at room (omega (arith, quotient, number, can.tick_low))

-- a touch is counted
pub pass_next : (pages : ℕ) (touches : List GuestTouch) (s : MigrationSettings) (index w tick page : ℕ)
    (touch d : GuestTouch) (at turn new : OpenWindow) (rows closed : List WindowRow) (marks seen : List PageMark)
    → AreTouches pages touches → PassesTo pages touches s index (state_of w at rows marks) → index < length touches
    → touch ≡ get_or touches index d → tick ≡ touch.tick → page ≡ touch.page
    → turn ≡ turned_open w tick at → closed ≡ with_closed rows (row_closed tick at)
    → new ≡ record turn { row = counted turn.row (get_or marks page unmarked).last }
    → seen ≡ set marks page (marked (get_or marks page unmarked) turn.row.number)
    → PassesTo pages touches s (index + 1) (state_of w new closed seen)
pass_next pages touches s index w tick page touch d at turn new rows closed marks seen fits p low is tick_is page_is
    turn_is closed_is new_is seen_is =
    let begun : state_of w turn closed marks ≡ turned (state_of w at rows marks) tick =
    (λ i. state_of w (turn_is i) (closed_is i) marks) ∙ sym (turned_is w tick at rows marks) in
    let made : state_of w new closed seen ≡ written (turned (state_of w at rows marks) tick) page =
    (λ i. state_of w (new_is i) closed (seen_is i)) ∙ ap (λ (x : Counting). written x page) begun in
    one_more_added pages touches s index touch d (state_of w at rows marks) (state_of w new closed seen) tick page fits
    p low is tick_is page_is made

-- ---- with what is kept of pages

-- a pass that has reached a touch: what is kept of pages says what the marks of its state say
pub record TablesTo (pages : ℕ) (touches : List GuestTouch) (s : MigrationSettings) (index w : ℕ) (at : OpenWindow)
    (rows : List WindowRow) (seen : List PageSeen) : Type 0 where
  pub marks : List PageMark
  pub passes : PassesTo pages touches s index (state_of w at rows marks)
  pub says : SayMarks index at marks seen

pub tables_start : (pages : ℕ) (touches : List GuestTouch) (s : MigrationSettings) (w : ℕ) (at : OpenWindow)
    (rows : List WindowRow) (seen : List PageSeen) → AreSettings s → w ≡ s.window → at ≡ first_window w → rows ≡ []
    → seen ≡ replicate pages unseen → TablesTo pages touches s 0 w at rows seen
tables_start pages touches s w at rows seen are w_is at_is rows_are seen_are =
    let marks = replicate pages unmarked in
    let begun : state_of w at rows marks ≡ started w pages = λ i. state_of w (at_is i) (rows_are i) marks in
    record {
      marks = marks;
      passes = start_of_pass pages touches s (state_of w at rows marks) w pages are begun w_is refl;
      says = say_first w pages at marks seen at_is refl seen_are;
    }

tables_ready : (pages : ℕ) (touches : List GuestTouch) (s : MigrationSettings) (index w tick page : ℕ)
    (touch d : GuestTouch) (at : OpenWindow) (rows : List WindowRow) (seen : List PageSeen)
    → AreTouches pages touches → pages ≤ 65_536 → AreSettings s
    → (p : TablesTo pages touches s index w at rows seen) → index < length touches
    → touch ≡ get_or touches index d → tick ≡ touch.tick → page ≡ touch.page
    → CanAdd (state_of w at rows p.marks) tick page
tables_ready pages touches s index w tick page touch d at rows seen fits few are p low is tick_is page_is =
    ready_to_add pages touches s index touch d (state_of w at rows p.marks) tick page fits few are p.passes low is tick_is
    page_is

tables_turned : (pages : ℕ) (touches : List GuestTouch) (s : MigrationSettings) (index w tick : ℕ) (at : OpenWindow)
    (rows : List WindowRow) (seen : List PageSeen) → (p : TablesTo pages touches s index w at rows seen)
    → SayMarks (index + 1) (turned_open w tick at) p.marks seen
tables_turned pages touches s index w tick at rows seen p =
    let shows = p.passes.passes.shows in
    say_turned index w tick at p.marks seen shows.some shows.end_is p.says

-- the window of the next touch may be opened
pub tables_open : (pages : ℕ) (touches : List GuestTouch) (s : MigrationSettings) (index w tick page : ℕ)
    (touch d : GuestTouch) (at : OpenWindow) (rows : List WindowRow) (seen : List PageSeen)
    → AreTouches pages touches → pages ≤ 65_536 → AreSettings s
    → TablesTo pages touches s index w at rows seen → index < length touches
    → touch ≡ get_or touches index d → tick ≡ touch.tick → page ≡ touch.page → CanOpen w tick at
tables_open pages touches s index w tick page touch d at rows seen fits few are p low is tick_is page_is =
    let can = tables_ready pages touches s index w tick page touch d at rows seen fits few are p low is tick_is page_is in
    can_open index w tick page (state_of w at rows p.marks) at p.marks seen can refl refl (omega (arith, low, fits.few))
    p.says

-- the next touch may be counted, once its window is open
pub tables_count : (pages : ℕ) (touches : List GuestTouch) (s : MigrationSettings) (index w tick page : ℕ)
    (touch d : GuestTouch) (at : OpenWindow) (rows : List WindowRow) (seen : List PageSeen)
    → AreTouches pages touches → pages ≤ 65_536 → AreSettings s
    → TablesTo pages touches s index w at rows seen → index < length touches
    → touch ≡ get_or touches index d → tick ≡ touch.tick → page ≡ touch.page
    → CanCount (turned_open w tick at).row seen page
tables_count pages touches s index w tick page touch d at rows seen fits few are p low is tick_is page_is =
    let can = tables_ready pages touches s index w tick page touch d at rows seen fits few are p low is tick_is page_is in
    let room = room_next (ltb tick at.end) w tick page (state_of w at rows p.marks) at can can.window_some can.row in
    can_count (index + 1) page (turned_open w tick at).row (turned_open w tick at) p.marks seen
    (omega (arith, can.page_low, p.says.len)) (omega (arith, low, fits.few)) room
    (tables_turned pages touches s index w tick at rows seen p)

-- a touch is counted
pub tables_next : (pages : ℕ) (touches : List GuestTouch) (s : MigrationSettings) (index w tick page : ℕ)
    (touch d : GuestTouch) (at turn new : OpenWindow) (rows closed : List WindowRow) (seen after : List PageSeen)
    → AreTouches pages touches → TablesTo pages touches s index w at rows seen → index < length touches
    → touch ≡ get_or touches index d → tick ≡ touch.tick → page ≡ touch.page → page < length seen
    → turn ≡ turned_open w tick at → closed ≡ with_closed rows (row_closed tick at)
    → new ≡ record turn { row = counted_by turn.row turn.place turn.before (get_or seen page unseen).last }
    → after ≡ set seen page (seen_at (get_or seen page unseen) turn.place)
    → TablesTo pages touches s (index + 1) w new closed after
tables_next pages touches s index w tick page touch d at turn new rows closed seen after fits p low is tick_is page_is
    within turn_is closed_is new_is after_is =
    let say : SayMarks (index + 1) turn p.marks seen =
    rw turn_is (tables_turned pages touches s index w tick at rows seen p) in
    let row = counted_by turn.row turn.place turn.before (get_or seen page unseen).last in
    let marks = set p.marks page (marked (get_or p.marks page unmarked) turn.row.number) in
    let counts : new ≡ record turn { row = counted turn.row (get_or p.marks page unmarked).last } =
    new_is ∙ (λ i. record turn { row = counts_as (index + 1) page turn p.marks seen within say i }) in
    record {
      marks = marks;
      passes = pass_next pages touches s index w tick page touch d at turn new rows closed p.marks marks fits p.passes low
          is tick_is page_is turn_is closed_is counts refl;
      says = rw (new_is, after_is) (say_counted (index + 1) page turn (record turn { row = row }) p.marks seen within say
          refl refl refl);
    }

-- the tables after the last touch
pub tables_end : (pages : ℕ) (touches : List GuestTouch) (s : MigrationSettings) (index w hot : ℕ) (at : OpenWindow)
    (rows : List WindowRow) (seen : List PageSeen) (tables : WorkingSets)
    → TablesTo pages touches s index w at rows seen → length touches ≤ index → hot ≡ s.hot
    → tables ≡ record { windows = with_row rows at.row; hot = hot_in seen hot }
    → tables ≡ working_sets_of pages touches s
tables_end pages touches s index w hot at rows seen tables p high hot_is is =
    end_of_pass pages touches s index (state_of w at rows p.marks) hot tables p.passes high hot_is
    (is ∙ (λ i. record {
      windows = with_row rows at.row;
      hot = hot_same hot seen p.marks p.says.len
          (λ page low. (p.says.each page low).windows) i;
    }))
