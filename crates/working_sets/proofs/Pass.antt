-- A pass over the writes of a trace, on the way.
use Rattle.std.proofs.Common.{◌≡◌, ℕ, ltb, ◌+◌, ◌*◌, ◌/◌, ◌^◌, ◌<◌, ◌≤◌, List, [], ◌∷◌, ◌++◌, length, get_or, leb, refl}
use Rattle.std.proofs.Common.{sym, ap, ◌∙◌, arith}
use Rattle.std.specs.List.{All, filter, range_with_len}
use Rattle.std.proofs.Math.Nat.{mul-le-mul_left}
use Rattle.std.proofs.lemmas.Bool.{cond_both}
use Rattle.std.proofs.lemmas.List.{append_assoc, append-nil, length-append, get_or_at}
use Rattle.migration_model.specs.Rates.{MigrationSettings}
use Rattle.migration_model.specs.Trace.{last_by}
use Rattle.migration_model.specs.Touches.{GuestTouch, IsTouch, AreTouches}
use Rattle.migration_model.proofs.Ranges.{filter_range_agree}
use Rattle.migration_model.proofs.Order.{last_by-push, last_by-le, in_order-front}
use Rattle.migration_model.specs.Windows.{rows_of, windows_with, hot_pages_of, working_sets_of}
use Rattle.working_sets.specs.Counting.{Counting, CanAdd, unmarked, mark_of, turned, with_row, written, started, hot_of}
use Rattle.working_sets.specs.Counting.{finished}
use Rattle.working_sets.proofs.Counts.{count_le}
use Rattle.working_sets.proofs.Last.{in_window}
use Rattle.working_sets.proofs.Rows.{IsSmall, IsSmall-row_of}
use Rattle.working_sets.proofs.Written.{hits}
use Rattle.working_sets.proofs.Shown.{Shows, Shows_start, Shows_turned, Shows-push, Holds_turned, quotient_low}
use Rattle.working_sets.proofs.Shown.{quotient_is, rows_of_shown, windows_with_shown}

-- a state that shows the writes up to those that are left
pub record Passes (pages w : ℕ) (whole left : List GuestTouch) (s : Counting) : Type 0 where
  pub done : List GuestTouch
  pub joined : done ++ left ≡ whole
  pub shows : Shows pages done s
  pub at : s.row.number ≡ last_by (λ t. t.tick) done / s.window
  pub window_is : s.window ≡ w

pub Passes_start : (pages w : ℕ) (whole : List GuestTouch) → 1 ≤ w → Passes pages w whole whole (started w pages)
Passes_start pages w whole some = record {
  done = [];
  joined = refl;
  shows = Shows_start w pages some;
  at = quotient_is 0 w 0 some (omega arith) (omega arith);
  window_is = refl;
}

-- the next write is in the open window, or after it
next_is_late : (pages w : ℕ) (whole left : List GuestTouch) (write : GuestTouch) (s : Counting) → AreTouches pages whole
    → (p : Passes pages w whole (write ∷ left) s) → s.row.number * s.window ≤ write.tick
next_is_late pages w whole left write s fits p =
    let order = fits.in_order in
    let before : All (λ x. x.tick ≤ write.tick) p.done = in_order-front (λ t. t.tick) p.done write left
    (rw (← p.joined) at order) in
    let last : last_by (λ t. t.tick) p.done ≤ write.tick = last_by-le (λ t. t.tick) write.tick p.done before in
    let low : last_by (λ t. t.tick) p.done / s.window * s.window ≤ last_by (λ t. t.tick) p.done =
    quotient_low (last_by (λ t. t.tick) p.done) s.window in
    let same : s.row.number * s.window ≡ last_by (λ t. t.tick) p.done / s.window * s.window =
    ap (λ n. n * s.window) p.at in
    omega arith

pub next_fits : (pages w : ℕ) (whole left : List GuestTouch) (write : GuestTouch) (s : Counting)
    → AreTouches pages whole
    → Passes pages w whole (write ∷ left) s → IsTouch pages write
next_fits pages w whole left write s fits p =
    let each : All (IsTouch pages) (p.done ++ write ∷ left) = rw (← p.joined) at fits.each in
    let here : get_or (p.done ++ write ∷ left) (length p.done) write ≡ write =
    get_or_at p.done write left write (length p.done) refl in
    let whole_is : IsTouch pages (get_or (p.done ++ write ∷ left) (length p.done) write) =
    each (length p.done) write (omega (arith, length-append p.done (write ∷ left))) in
    rw here at whole_is

window_turned : (s : Counting) (tick : ℕ) → (turned s tick).window ≡ s.window
window_turned s tick = cond_both {A = Counting} (ltb tick s.end) _ _ (λ x. x.window ≡ s.window) (λ _. refl) (λ _. refl)

pub Passes_next : (pages w : ℕ) (whole left : List GuestTouch) (write : GuestTouch) (s : Counting)
    → AreTouches pages whole
    → Passes pages w whole (write ∷ left) s → Passes pages w whole left (written (turned s write.tick) write.page)
Passes_next pages w whole left write s fits p =
    let shows = Shows_turned pages write.tick p.done s p.shows in
    let holds = Holds_turned pages write.tick p.done s p.shows (next_is_late pages w whole left write s fits p) in
    let next = turned s write.tick in
    let is = next_fits pages w whole left write s fits p in
    let last : write.tick ≡ last_by (λ t. t.tick) (p.done ++ write ∷ []) =
    sym (last_by-push (λ t. t.tick) p.done write) in
    record {
      done = p.done ++ write ∷ [];
      joined = append_assoc p.done (write ∷ []) left ∙ p.joined;
      shows = Shows-push pages p.done write next shows holds is.page;
      at = quotient_is write.tick next.window next.row.number shows.some holds.low holds.high
          ∙ ap (λ t. t / next.window) last;
      window_is = window_turned s write.tick ∙ p.window_is;
    }

-- a write that is next may be added
pub can_add : (pages w : ℕ) (whole left : List GuestTouch) (write : GuestTouch) (s : Counting) → AreTouches pages whole
    → pages ≤ 65_536 → w ≤ 2 ^ 40
    → Passes pages w whole (write ∷ left) s → CanAdd s write.tick write.page
can_add pages w whole left write s fits size high p =
    let is = next_fits pages w whole left write s fits p in
    let late = next_is_late pages w whole left write s fits p in
    let some = p.shows.some in
    let number_low : s.row.number * 1 ≤ s.row.number * s.window = mul-le-mul_left s.row.number some in
    let small : IsSmall (length p.done) pages s.row = rw (p.shows.row_is)
    (IsSmall-row_of s.window pages s.row.number p.done) in
    let shorter : length p.done ≤ length whole = omega (
      arith,
      length-append p.done (write ∷ left),
      ap length p.joined,
    ) in
    let own = p.shows.each write.page unmarked is.page in
    let counted_high = count_le (λ i. hits (in_window s.window i) write.page p.done) 0 (s.row.number + 1) in
    record {
      page_low = omega (arith, p.shows.len, is.page);
      tick_low = is.tick;
      window_some = some;
      window_few = omega (arith, p.window_is);
      row = record {
        number = omega (arith, is.tick);
        writes = omega (arith, small.writes_high, fits.few);
        pages = omega (arith, small.pages_high, size);
        again = omega (arith, small.again_high, size);
        fresh = omega (arith, small.fresh_high, size);
      };
      mark = omega (arith, own.windows, counted_high, is.tick);
    }

-- after the last write
pub finished_is : (pages : ℕ) (touches : List GuestTouch) (settings : MigrationSettings) (s : Counting)
    → Passes pages settings.window touches [] s
    → finished s settings.hot ≡ working_sets_of pages touches settings
unfolding hot_pages_of
finished_is pages touches settings s p =
    let done_is : p.done ≡ touches = sym (append-nil p.done) ∙ p.joined in
    let rows : with_row s.rows s.row ≡ rows_of touches pages settings.window =
    rows_of_shown pages p.done s p.shows p.at ∙ (λ i. rows_of (done_is i) pages (p.window_is i)) in
    let marks : (page : ℕ) → page < pages → (mark_of s page).windows ≡ windows_with touches settings.window page =
    λ page low. windows_with_shown pages p.done s p.shows p.at page low
    ∙ (λ i. windows_with (done_is i) (p.window_is i) page) in
    let hot : hot_of s.marks settings.hot ≡ hot_pages_of touches pages settings.window settings.hot =
    ap (λ n. filter (λ page. leb settings.hot (mark_of s page).windows) (range_with_len 0 n)) p.shows.len
    ∙ filter_range_agree (λ page. leb settings.hot (windows_with touches settings.window page))
    (λ page. leb settings.hot (mark_of s page).windows) 0 pages
    (λ page low high. ap (λ n. leb settings.hot n) (marks page (omega arith))) in
    λ i. record { windows = rows i; hot = hot i }
