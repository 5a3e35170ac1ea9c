-- Pieces that are counted side by side, with what is kept of pages.
use Rattle.std.proofs.Common.{◌≡◌, ℕ, ◌+◌, ◌*◌, ◌^◌, ◌<◌, ◌≤◌, ltb, List, [], length, get_or, set, replicate, refl, sym, ap, ◌∙◌, arith}
use Rattle.migration_model.specs.Touches.{GuestTouch, no_touch}
use Rattle.migration_model.specs.Windows.{WindowRow}
use Rattle.working_sets.specs.Counting.{CanAdd, CanCount, CanOpen, Counting, SayMarks, counted, counted_by, first_window, marked}
use Rattle.working_sets.specs.Counting.{passed, row_closed, seen_at, turned_open, unmarked, unseen}
use Rattle.working_sets.specs.Pieces.{BeginsSo, CarriesSo, FitsRow, state_at}
use Rattle.working_sets.specs.declared.counting.OpenWindow.{OpenWindow}
use Rattle.working_sets.specs.declared.counting.PageSeen.{PageSeen}
use Rattle.working_sets.proofs.Carried.{begins_first, begins_more, carries_first, carries_more, pushed_if, room_carried}
use Rattle.working_sets.proofs.Open.{room_next}
use Rattle.working_sets.proofs.Seen.{can_count, can_open, counts_as, say_counted, say_first, say_passed, say_turned}

-- the window of a state ends with its last tick
abbrev pub Ends : Counting → Type 0
Ends s = s.end ≡ (s.row.number + 1) * s.window

-- ---- where a piece begins

pub begins_so_first : (w pages : ℕ) (touches : List GuestTouch) (at : OpenWindow) (seen : List PageSeen)
    → at ≡ first_window w → seen ≡ replicate pages unseen → BeginsSo (state_at w pages touches 0) 0 at seen
begins_so_first w pages touches at seen at_is seen_are =
    let marks = replicate pages unmarked in
    record {
      marks = marks;
      begins = begins_first w pages touches at marks at_is refl;
      says = say_first w pages at marks seen at_is refl seen_are;
    }

number_begun : (now : Counting) (index : ℕ) (at : OpenWindow) (seen : List PageSeen) → BeginsSo now index at seen
    → at.row.number ≡ now.row.number
number_begun now index at seen b = ap (λ (r : WindowRow). r.number) b.begins.row_is

begun_turned : (w tick index : ℕ) (now : Counting) (at : OpenWindow) (seen : List PageSeen) → 1 ≤ w → now.window ≡ w
    → Ends now → (b : BeginsSo now index at seen) → SayMarks (index + 1) (turned_open w tick at) b.marks seen
begun_turned w tick index now at seen some w_is ends b =
    let number = number_begun now index at seen b in
    say_turned index w tick at b.marks seen some
    (b.begins.end_is ∙ ends ∙ (λ i. (sym number i + 1) * w_is i)) b.says

pub begins_so_open : (index w tick page : ℕ) (now : Counting) (at : OpenWindow) (seen : List PageSeen)
    → CanAdd now tick page → now.window ≡ w → index < 2 ^ 20 → BeginsSo now index at seen → CanOpen w tick at
begins_so_open index w tick page now at seen can w_is few b =
    can_open index w tick page now at b.marks seen can w_is (number_begun now index at seen b) few b.says

pub begins_so_more : (w pages n tick page : ℕ) (touches : List GuestTouch) (touch : GuestTouch) (at turn : OpenWindow)
    (seen new : List PageSeen)
    → (state_at w pages touches n).window ≡ w → 1 ≤ w → Ends (state_at w pages touches n) → n < length touches
    → touch ≡ get_or touches n no_touch → tick ≡ touch.tick → page ≡ touch.page → page < length seen
    → BeginsSo (state_at w pages touches n) n at seen → turn ≡ turned_open w tick at
    → new ≡ passed seen page turn.place
    → BeginsSo (state_at w pages touches (n + 1)) (n + 1) turn new
begins_so_more w pages n tick page touches touch at turn seen new w_is some ends low is tick_is page_is within b turn_is
    new_is =
    let say : SayMarks (n + 1) turn b.marks seen =
    rw turn_is (begun_turned w tick n (state_at w pages touches n) at seen some w_is ends b) in
    record {
      marks = _;
      begins = begins_more w pages n tick page touches touch at turn b.marks _ w_is low is tick_is page_is
          (omega (arith, within, b.says.len)) b.begins turn_is refl;
      says = rw new_is (say_passed (n + 1) page turn b.marks seen within say);
    }

-- ---- a piece on its way

pub carries_so_first : (now : Counting) (index : ℕ) (at : OpenWindow) (seen : List PageSeen) → FitsRow now.row
    → BeginsSo now index at seen → CarriesSo now now index [] at seen
carries_so_first now index at seen fits b =
    record { marks = b.marks; carries = carries_first now at b.marks fits b.begins; says = b.says }

carried_turned : (w tick index : ℕ) (before now : Counting) (rows : List WindowRow) (at : OpenWindow)
    (seen : List PageSeen) → 1 ≤ w → now.window ≡ w → Ends now → (c : CarriesSo before now index rows at seen)
    → SayMarks (index + 1) (turned_open w tick at) c.marks seen
carried_turned w tick index before now rows at seen some w_is ends c =
    say_turned index w tick at c.marks seen some
    (c.carries.end_is ∙ ends ∙ (λ i. (sym c.carries.number i + 1) * w_is i)) c.says

pub carries_so_open : (index w tick page : ℕ) (before now : Counting) (rows : List WindowRow) (at : OpenWindow)
    (seen : List PageSeen) → CanAdd now tick page → now.window ≡ w → index < 2 ^ 20
    → CarriesSo before now index rows at seen → CanOpen w tick at
carries_so_open index w tick page before now rows at seen can w_is few c =
    can_open index w tick page now at c.marks seen can w_is c.carries.number few c.says

-- the next touch may be counted, once its window is open
pub carries_so_count : (index w tick page : ℕ) (before now : Counting) (rows : List WindowRow) (at turn : OpenWindow)
    (seen : List PageSeen) → now.window ≡ w → Ends now → turn ≡ turned_open w tick at → CanAdd now tick page
    → index < 2 ^ 20 → CarriesSo before now index rows at seen → CanCount turn.row seen page
carries_so_count index w tick page before now rows at turn seen w_is ends turn_is can few c =
    let some : 1 ≤ w = omega (arith, w_is, can.window_some) in
    let room = room_carried rows before.row at.row now.row c.carries.row_is c.carries.number can.row in
    let opened = room_next (ltb tick at.end) w tick page now at can some room in
    let say = carried_turned w tick index before now rows at seen some w_is ends c in
    let low : page < length seen = omega (arith, can.page_low, c.carries.len, c.says.len) in
    rw turn_is (can_count (index + 1) page (turned_open w tick at).row (turned_open w tick at) c.marks seen low
    (omega (arith, few)) opened say)

-- a touch is counted
pub carries_so_more : (w pages n tick page : ℕ) (touches : List GuestTouch) (touch : GuestTouch) (before : Counting)
    (rows closed : List WindowRow) (at turn new : OpenWindow) (seen after : List PageSeen)
    → (state_at w pages touches n).window ≡ w → 1 ≤ w → Ends (state_at w pages touches n) → n < length touches
    → touch ≡ get_or touches n no_touch → tick ≡ touch.tick → page ≡ touch.page → page < length seen
    → FitsRow (state_at w pages touches (n + 1)).row → CarriesSo before (state_at w pages touches n) n rows at seen
    → closed ≡ pushed_if rows (row_closed tick at) → turn ≡ turned_open w tick at
    → new ≡ record turn { row = counted_by turn.row turn.place turn.before (get_or seen page unseen).last }
    → after ≡ set seen page (seen_at (get_or seen page unseen) turn.place)
    → CarriesSo before (state_at w pages touches (n + 1)) (n + 1) closed new after
carries_so_more w pages n tick page touches touch before rows closed at turn new seen after w_is some ends low is tick_is
    page_is within fits c closed_is turn_is new_is after_is =
    let say : SayMarks (n + 1) turn c.marks seen =
    rw turn_is (carried_turned w tick n before (state_at w pages touches n) rows at seen some w_is ends c) in
    let row = counted_by turn.row turn.place turn.before (get_or seen page unseen).last in
    let marks = set c.marks page (marked (get_or c.marks page unmarked) turn.row.number) in
    let counts : new ≡ record turn { row = counted turn.row (get_or c.marks page unmarked).last } =
    new_is ∙ (λ i. record turn { row = counts_as (n + 1) page turn c.marks seen within say i }) in
    record {
      marks = marks;
      carries = carries_more w pages n tick page touches touch before rows closed at turn new c.marks marks w_is low is
          tick_is page_is (omega (arith, within, c.says.len)) fits c.carries closed_is turn_is counts refl;
      says = rw (new_is, after_is) (say_counted (n + 1) page turn (record turn { row = row }) c.marks seen within say
          refl refl refl);
    }
