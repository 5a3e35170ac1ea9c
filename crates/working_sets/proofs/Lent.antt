-- A pass over a timeline whose rows and marks are in memory that is lent.
use Rattle.std.proofs.Common.{◌≡◌, ℕ, ◌+◌, ◌/◌, ◌<◌, ◌≤◌, inl, inr, Bool, true, false, cond, ltb, leb, List, []}
use Rattle.std.proofs.Common.{◌∷◌, ◌++◌, length, set, drop, map, replicate, refl, sym, ap, ◌∙◌, arith, Option, None}
use Rattle.std.proofs.Common.{Some, IfSome}
use Rattle.std.specs.Prelude.{⊤}
use Rattle.std.specs.List.{filter, range_with_len}
use Rattle.std.specs.List.Sorted.{IsNonDecreasingBy}
use Rattle.std.proofs.lemmas.Bool.{le-leb, leb-true}
use Rattle.std.proofs.lemmas.Nat.{le-div}
use Rattle.std.proofs.lemmas.Option.{MatchOption-at_some}
use Rattle.std.proofs.lemmas.List.{append-nil, append_assoc, length-map, length-set, length_push, map-append}
use Rattle.std.proofs.lemmas.List.FromFn.{length-range_with_len}
use Rattle.std.proofs.lemmas.List.Sums.{count_by-le-length, length-filter}
use Rattle.migration_model.specs.Rates.{MigrationSettings, AreSettings}
use Rattle.migration_model.specs.Trace.{last_by}
use Rattle.migration_model.specs.Touches.{GuestTouch, AreTouches}
use Rattle.migration_model.specs.Windows.{WindowRow, WorkingSets, rows_of, row_of, windows_of, working_sets_of}
use Rattle.migration_model.proofs.Order.{in_order-front, last_by-le, last_by-push}
use Rattle.migration_model.proofs.Lists.{over_more}
use Rattle.working_sets.specs.Counting.{finished, first_window, one_if, row_closed, unseen, with_row}
use Rattle.working_sets.specs.Lending.{HasRows, count_after, numbers_of, rows_after, rows_over}
use Rattle.working_sets.specs.declared.counting.OpenWindow.{OpenWindow}
use Rattle.working_sets.specs.declared.counting.PageSeen.{PageSeen}
use Rattle.working_sets.specs.declared.lending.WindowNumbers.{WindowNumbers}
use Rattle.working_sets.proofs.Open.{TablesTo, state_of, tables_start, with_closed}
use Rattle.working_sets.proofs.Shown.{has_write, quotient_low}
use Rattle.working_sets.proofs.Whole.{end_of_pass}

-- ---- the buffer of rows

-- the closed rows are at the front of a buffer, and `count` slots are taken
pub record AreClosed (closed : List WindowRow) (old rows : List WindowNumbers) (count : ℕ) : Type 0 where
  pub rows_are : rows ≡ rows_over closed old
  pub count_is : count ≡ length closed
  pub len : length rows ≡ length old

row_put : (closed : List WindowRow) (old rows : List WindowNumbers) (count : ℕ) (row : WindowRow) → count < length rows
    → AreClosed closed old rows count
    → AreClosed (closed ++ row ∷ []) old (set rows count (numbers_of row)) (count + 1)
row_put closed old rows count row low are =
    let front : List WindowNumbers = map numbers_of closed in
    let len : length front ≡ count = length-map closed numbers_of ∙ sym are.count_is in
    let pushed : length (closed ++ row ∷ []) ≡ length (front ++ numbers_of row ∷ []) =
    omega (arith, length_push closed row, length_push front (numbers_of row), are.count_is, len) in
    record {
      rows_are = ap (λ (l : List WindowNumbers). set l count (numbers_of row)) are.rows_are
          ∙ (λ i. set (front ++ drop ((sym are.count_is ∙ sym len) i) old) (sym len i) (numbers_of row))
          ∙ over_more front old (numbers_of row) (omega (arith, len, low, are.len))
          ∙ (λ i. (sym (map-append numbers_of closed (row ∷ [])) i) ++ drop (sym pushed i) old);
      count_is = omega (arith, are.count_is, length_push closed row);
      len = length-set rows count (numbers_of row) ∙ are.len;
    }

put_either : (b : Bool) (closed : List WindowRow) (old rows : List WindowNumbers) (count : ℕ) (row : WindowRow)
    → (b ≡ true → count < length rows) → AreClosed closed old rows count
    → AreClosed (cond b (closed ++ row ∷ []) closed) old (cond b (set rows count (numbers_of row)) rows)
    (cond b (count + 1) count)
put_either true closed old rows count row low are = row_put closed old rows count row (low refl) are
put_either false closed old rows count row low are = are

pub closed_after : (closed : List WindowRow) (old rows : List WindowNumbers) (count : ℕ) (row : WindowRow)
    → (1 ≤ row.writes → count < length rows) → AreClosed closed old rows count
    → AreClosed (with_row closed row) old (rows_after rows count row) (count_after count row)
closed_after closed old rows count row low are = put_either (leb 1 row.writes) closed old rows count row
    (λ is. low (leb-true 1 row.writes is)) are

-- the buffer and the slot of the next row, after the row that a turn closes, if any
abbrev pub rows_closed : List WindowNumbers → ℕ → Option WindowRow → List WindowNumbers
rows_closed rows count None = rows
rows_closed rows count (Some row) = rows_after rows count row

abbrev pub count_closed : ℕ → Option WindowRow → ℕ
count_closed count None = count
count_closed count (Some row) = count_after count row

turned_either : (b : Bool) (closed : List WindowRow) (old rows : List WindowNumbers) (count : ℕ) (row : WindowRow)
    → (1 ≤ row.writes → count < length rows) → AreClosed closed old rows count
    → AreClosed (with_closed closed (cond b None (Some row))) old (rows_closed rows count (cond b None (Some row)))
    (count_closed count (cond b None (Some row)))
turned_either true closed old rows count row low are = are
turned_either false closed old rows count row low are = closed_after closed old rows count row low are

-- ---- the pass

-- a pass that has reached a touch
pub record LentPasses (pages : ℕ) (touches : List GuestTouch) (s : MigrationSettings) (index w : ℕ) (at : OpenWindow)
    (count : ℕ) (seen : List PageSeen) (old rows : List WindowNumbers) : Type 0 where
  pub closed : List WindowRow
  pub passes : TablesTo pages touches s index w at closed seen
  pub are : AreClosed closed old rows count
  pub few : length closed + one_if (leb 1 at.row.writes) ≤ index

pub lent_start : (pages : ℕ) (touches : List GuestTouch) (s : MigrationSettings) (w : ℕ) (at : OpenWindow)
    (seen : List PageSeen) (rows : List WindowNumbers) → AreSettings s
    → w ≡ s.window → at ≡ first_window w → seen ≡ replicate pages unseen
    → LentPasses pages touches s 0 w at 0 seen rows rows
lent_start pages touches s w at seen rows are w_is at_is seen_are = record {
  closed = [];
  passes = tables_start pages touches s w at [] seen are w_is at_is refl seen_are;
  are = record { rows_are = refl; count_is = refl; len = refl };
  few = omega (arith, ap (λ (x : OpenWindow). one_if (leb 1 x.row.writes)) at_is);
}

-- ---- there is a slot for each row

filter_few : {X : Type 0} (p : X → Bool) (f : ℕ → X) (n : ℕ) → length (filter p (map f (range_with_len 0 n))) ≤ n
filter_few p f n =
    let xs = map f (range_with_len 0 n) in
    omega (
      arith,
      length-filter p xs,
      count_by-le-length p xs,
      length-map (range_with_len 0 n) f,
      length-range_with_len 0 n,
    )

-- the first of some touches in order do not end after all of them
last_of_front : (done left : List GuestTouch) → IsNonDecreasingBy (λ (t : GuestTouch). t.tick) (done ++ left)
    → last_by (λ (t : GuestTouch). t.tick) done ≤ last_by (λ (t : GuestTouch). t.tick) (done ++ left)
last_of_front done [] order = omega (arith, ap (last_by (λ (t : GuestTouch). t.tick)) (append-nil done))
last_of_front done (x ∷ left) order =
    let joined : (done ++ x ∷ []) ++ left ≡ done ++ x ∷ left = append_assoc done (x ∷ []) left in
    let before = last_by-le (λ (t : GuestTouch). t.tick) x.tick done
    (in_order-front (λ (t : GuestTouch). t.tick) done x left order) in
    let after = last_of_front (done ++ x ∷ []) left (rw joined order) in
    omega (
      arith,
      before,
      last_by-push (λ (t : GuestTouch). t.tick) done x,
      after,
      ap (last_by (λ (t : GuestTouch). t.tick)) joined,
    )

-- there are fewer closed rows than windows
pub closed_few : (pages : ℕ) (touches : List GuestTouch) (s : MigrationSettings) (index w : ℕ) (at : OpenWindow)
    (seen : List PageSeen) (closed : List WindowRow) → AreTouches pages touches
    → TablesTo pages touches s index w at closed seen → 1 ≤ w → w ≡ s.window
    → length closed < windows_of touches w
closed_few pages touches s index w at seen closed fits p some w_is =
    let q = p.passes.passes in
    let number = at.row.number in
    let rows : length closed ≤ number = omega (
      arith,
      ap length q.shows.rows_are,
      filter_few has_write (row_of q.done pages w) number,
    ) in
    let order = fits.in_order in
    let last : last_by (λ (t : GuestTouch). t.tick) q.done ≤ last_by (λ (t : GuestTouch). t.tick) touches =
    omega (
      arith,
      last_of_front q.done (drop index touches) (rw q.joined order),
      ap (last_by (λ (t : GuestTouch). t.tick)) q.joined,
    ) in
    let low = quotient_low (last_by (λ (t : GuestTouch). t.tick) q.done) w in
    let under = le-div (last_by (λ (t : GuestTouch). t.tick) q.done / w) (last_by (λ (t : GuestTouch). t.tick) touches)
    w (omega arith) (omega (arith, low, last)) in
    omega (arith, rows, q.at, under)

pub slot_low : (pages : ℕ) (touches : List GuestTouch) (s : MigrationSettings) (index w : ℕ) (at : OpenWindow)
    (count : ℕ) (seen : List PageSeen) (old rows : List WindowNumbers) → AreTouches pages touches
    → AreSettings s → w ≡ s.window → LentPasses pages touches s index w at count seen old rows
    → index ≤ length touches → HasRows touches s.window (length old)
    → 1 ≤ at.row.writes → count < length rows
slot_low pages touches s index w at count seen old rows fits are w_is p low has some = elim has [
  | inl writes ↦
      let one : one_if (leb 1 at.row.writes) ≡ 1 = ap one_if (le-leb 1 at.row.writes some) in
      omega (arith, p.few, one, writes, p.are.count_is, p.are.len, low)
  | inr windows ↦
      let closed = closed_few pages touches s index w at seen p.closed fits p.passes
      (omega (arith, w_is, are.window_low)) w_is in
      omega (arith, closed, windows, p.are.count_is, p.are.len, ap (windows_of touches) w_is)
]

slot_either : (b : Bool) (row : WindowRow) (X : Type 0) → (1 ≤ row.writes → X)
    → IfSome (cond b None (Some row)) (λ r. 1 ≤ r.writes → X)
slot_either true row X slot = tt
slot_either false row X slot = slot

-- what holds if the open window has a write holds if the row that is closed has one
pub slot_closed : (tick : ℕ) (at : OpenWindow) (row : WindowRow) (X : Type 0) → (1 ≤ at.row.writes → X)
    → row_closed tick at ≡ Some row → 1 ≤ row.writes → X
slot_closed tick at row X slot is = MatchOption-at_some ⊤ (λ r. 1 ≤ r.writes → X) row is
    (slot_either (ltb tick at.end) at.row X slot)

-- ---- one more touch

with_len : (b : Bool) (closed : List WindowRow) (row : WindowRow)
    → length (cond b (closed ++ row ∷ []) closed) ≡ length closed + one_if b
with_len true closed row = length_push closed row
with_len false closed row = omega arith

few_turned : (b : Bool) (closed : List WindowRow) (row : WindowRow) (index : ℕ)
    → length closed + one_if (leb 1 row.writes) ≤ index → length (with_closed closed (cond b None (Some row))) ≤ index
few_turned true closed row index few = omega (arith, few)
few_turned false closed row index few = omega (arith, few, with_len (leb 1 row.writes) closed row)

one_if_few : (b : Bool) → one_if b ≤ 1
one_if_few true = omega arith
one_if_few false = omega arith

-- a touch is counted
pub lent_step : (pages : ℕ) (touches : List GuestTouch) (s : MigrationSettings) (index w tick : ℕ) (at new : OpenWindow)
    (count next : ℕ) (seen told : List PageSeen) (old rows after : List WindowNumbers)
    → (p : LentPasses pages touches s index w at count seen old rows) → (1 ≤ at.row.writes → count < length rows)
    → TablesTo pages touches s (index + 1) w new (with_closed p.closed (row_closed tick at)) told
    → after ≡ rows_closed rows count (row_closed tick at) → next ≡ count_closed count (row_closed tick at)
    → LentPasses pages touches s (index + 1) w new next told old after
lent_step pages touches s index w tick at new count next seen told old rows after p slot passes after_is next_is =
    let few = few_turned (ltb tick at.end) p.closed at.row index p.few in
    record {
      closed = with_closed p.closed (row_closed tick at);
      passes = passes;
      are = rw (after_is, next_is) (turned_either (ltb tick at.end) p.closed old rows count at.row slot p.are);
      few = omega (arith, few, one_if_few (leb 1 new.row.writes));
    }

-- ---- the end

pub lent_end : (pages : ℕ) (touches : List GuestTouch) (s : MigrationSettings) (index w : ℕ) (at : OpenWindow)
    (count last : ℕ) (seen : List PageSeen) (old rows after : List WindowNumbers) → AreTouches pages touches
    → AreSettings s → w ≡ s.window → LentPasses pages touches s index w at count seen old rows
    → index ≤ length touches → length touches ≤ index → HasRows touches s.window (length old)
    → after ≡ rows_after rows count at.row → last ≡ count_after count at.row
    → (after ≡ rows_over (rows_of touches pages s.window) old) × (last ≡ length (rows_of touches pages s.window))
lent_end pages touches s index w at count last seen old rows after fits are w_is p low high has after_is last_is =
    let slot = slot_low pages touches s index w at count seen old rows fits are w_is p low has in
    let state = state_of w at p.closed p.passes.marks in
    let all : finished state s.hot ≡ working_sets_of pages touches s =
    end_of_pass pages touches s index state s.hot (finished state s.hot) p.passes.passes high refl refl in
    let rows_are : with_row p.closed at.row ≡ rows_of touches pages s.window =
    ap (λ (x : WorkingSets). x.windows) all in
    let put = closed_after p.closed old rows count at.row slot p.are in (
      after_is ∙ put.rows_are ∙ ap (λ (l : List WindowRow). rows_over l old) rows_are,
      last_is ∙ put.count_is ∙ ap (λ (l : List WindowRow). length l) rows_are,
    )
