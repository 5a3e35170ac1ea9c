-- The row of a window, and the rows of all windows, after one more write.
use Rattle.std.proofs.Common.{◌≡◌, ℕ, ◌+◌, ◌*◌, ◌<◌, ◌≤◌, Bool, true, false, cond, not, ◌&&◌, eqb, List, [], ◌∷◌, ◌++◌}
use Rattle.std.proofs.Common.{length, refl, sym, ap, inl, inr, arith}
use Rattle.std.specs.List.{All, count_by, range_with_len, sum_by}
use Rattle.std.proofs.Math.Nat.{mul-le-mul_right}
use Rattle.std.proofs.lemmas.Bool.{cases_eq, eq-eqb, ne_eqb, and_left, and_right}
use Rattle.std.proofs.lemmas.List.Sums.{sum_by_push, sum_by-le, count_by-le-length}
use Rattle.std.proofs.lemmas.List.Elements.{All-weaker}
use Rattle.migration_model.specs.Touches.{GuestTouch}
use Rattle.migration_model.specs.Windows.{WindowRow, row_of}
use Rattle.working_sets.specs.Counting.{blank, counted, one_if}
use Rattle.working_sets.proofs.Counts.{count_change, count_none, count_le}
use Rattle.working_sets.proofs.Written.{hits, hits_push_other, hits_push_out, hits_push_in, hits_past}
use Rattle.working_sets.proofs.Last.{in_window, in_window_before, in_earlier_window, in_window_is, above_window}
use Rattle.working_sets.proofs.Last.{above_window_before, above_earlier_window, below_window, IsLast, hits_already}
use Rattle.working_sets.proofs.Last.{hits_not_yet, hits_before, hits_not_before, hits_earlier, hits_not_earlier}

-- rows are equal if their fields are
pub same_row : (a b : WindowRow) → a.number ≡ b.number → a.writes ≡ b.writes → a.pages ≡ b.pages → a.again ≡ b.again
    → a.fresh ≡ b.fresh → a ≡ b
same_row a b number writes pages again fresh =
    λ i. record { number = number i; writes = writes i; pages = pages i; again = again i; fresh = fresh i }

-- what of a write's page is already counted in the open row, and what the write adds
pub record Counts (this before earlier : Bool) (j last : ℕ) : Type 0 where
  pub pages : one_if this + one_if (not (eqb last (j + 1))) ≡ 1
  pub again : one_if (this && before) + one_if (eqb last j && not (eqb last 0)) ≡ one_if before
  pub fresh : one_if (this && not earlier) + one_if (eqb last 0) ≡ one_if (not earlier)

counts_already : (this before earlier : Bool) (j last : ℕ) → this ≡ true → last ≡ j + 1
    → Counts this before earlier j last
counts_already this before earlier j last in_this same =
    let is_next : eqb last (j + 1) ≡ true = eq-eqb _ _ same in
    let not_here : eqb last j ≡ false = ne_eqb _ _ (λ e. omega arith) in
    let some : eqb last 0 ≡ false = ne_eqb _ _ (λ e. omega arith) in
    record {
      pages = rw (in_this, is_next) refl;
      again = rw (in_this, not_here) (omega arith);
      fresh = rw (in_this, some) (omega arith);
    }

counts_new : (this before earlier : Bool) (j last : ℕ) → this ≡ false → before ≡ false → earlier ≡ false → last ≡ 0
    → Counts this before earlier j last
counts_new this before earlier j last in_this in_before in_earlier none =
    let not_next : eqb last (j + 1) ≡ false = ne_eqb _ _ (λ e. omega arith) in
    let is_zero : eqb last 0 ≡ true = eq-eqb _ _ none in
    let not_again : (eqb last j && not (eqb last 0)) ≡ false =
    and_right (eqb last j) (not (eqb last 0)) (ap not is_zero) in
    record {
      pages = rw (in_this, not_next) refl;
      again = rw (in_this, not_again, in_before) refl;
      fresh = rw (in_this, is_zero, in_earlier) refl;
    }

counts_again : (this before earlier : Bool) (j last : ℕ) → this ≡ false → before ≡ true → earlier ≡ true → last ≡ j
    → (last ≡ 0 → ⊥) → Counts this before earlier j last
counts_again this before earlier j last in_this in_before in_earlier same nonzero =
    let not_next : eqb last (j + 1) ≡ false = ne_eqb _ _ (λ e. omega arith) in
    let is_here : eqb last j ≡ true = eq-eqb _ _ same in
    let some : eqb last 0 ≡ false = ne_eqb _ _ nonzero in
    record {
      pages = rw (in_this, not_next) refl;
      again = rw (in_this, is_here, some, in_before) refl;
      fresh = rw (in_this, some, in_earlier) refl;
    }

counts_back : (this before earlier : Bool) (j last : ℕ) → this ≡ false → before ≡ false → earlier ≡ true → last < j
    → (last ≡ 0 → ⊥) → Counts this before earlier j last
counts_back this before earlier j last in_this in_before in_earlier low nonzero =
    let not_next : eqb last (j + 1) ≡ false = ne_eqb _ _ (λ e. omega arith) in
    let not_here : eqb last j ≡ false = ne_eqb _ _ (λ e. omega arith) in
    let some : eqb last 0 ≡ false = ne_eqb _ _ nonzero in
    record {
      pages = rw (in_this, not_next) refl;
      again = rw (in_this, not_here, in_before) refl;
      fresh = rw (in_this, some, in_earlier) refl;
    }

pub counts_at : (w j page last : ℕ) (writes : List GuestTouch) → IsLast w writes page last → last ≤ j + 1
    → Counts (hits (in_window w j) page writes) (hits (in_window_before w j) page writes)
    (hits (in_earlier_window w j) page writes) j last
counts_at w j page last writes is low = elim (cases_eq last (j + 1)) [
  | inl same ↦ counts_already _ _ _ j last (hits_already w j page last writes is same) same
  | inr other ↦
      let under : last ≤ j = omega (arith, other) in
      let not_yet = hits_not_yet w j page last writes is under in
      elim (cases_eq last 0) [
        | inl none ↦
            counts_new _ _ _ j last not_yet (hits_not_before w j page last writes is (omega arith))
            (hits_not_earlier w j page last writes is none) none
        | inr some ↦
            let early = hits_earlier w j page last writes is under some in
            elim (cases_eq last j) [
              | inl here ↦ counts_again _ _ _ j last not_yet (hits_before w j page last writes is here some) early here
                  some
              | inr back ↦ counts_back _ _ _ j last not_yet (hits_not_before w j page last writes is
                  (omega (arith, back))) early (omega (arith, back)) some
            ]
      ]
]

-- one more write in window j
pub row_of-push : (w pages j last : ℕ) (writes : List GuestTouch) (write : GuestTouch) → in_window w j write.tick ≡ true
    → write.page < pages
    → IsLast w writes write.page last → last ≤ j + 1 → row_of (writes ++ write ∷ []) pages w j
    ≡ counted (row_of writes pages w j) last
unfolding row_of
row_of-push w pages j last writes write inside below is low =
    let page = write.page in
    let more = writes ++ write ∷ [] in
    let at = in_window_is w j write.tick inside in
    let adds = counts_at w j page last writes is low in
    let now : hits (in_window w j) page more ≡ true = hits_push_in (in_window w j) page writes write refl inside in
    let before : hits (in_window_before w j) page more ≡ hits (in_window_before w j) page writes =
    hits_push_out (in_window_before w j) page writes write (above_window_before w j write.tick at.0) in
    let earlier : hits (in_earlier_window w j) page more ≡ hits (in_earlier_window w j) page writes =
    hits_push_out (in_earlier_window w j) page writes write (above_earlier_window w j write.tick at.0) in
    let other_this : (p : ℕ) → (p ≡ page → ⊥) → hits (in_window w j) p more ≡ hits (in_window w j) p writes =
    λ p apart. hits_push_other (in_window w j) p writes write (λ e. apart (sym e)) in
    let other_before : (p : ℕ) → (p ≡ page → ⊥) → hits (in_window_before w j) p more
    ≡ hits (in_window_before w j) p writes =
    λ p apart. hits_push_other (in_window_before w j) p writes write (λ e. apart (sym e)) in
    let other_earlier : (p : ℕ) → (p ≡ page → ⊥) → hits (in_earlier_window w j) p more
    ≡ hits (in_earlier_window w j) p writes =
    λ p apart. hits_push_other (in_earlier_window w j) p writes write (λ e. apart (sym e)) in
    let count_writes : count_by (λ x. in_window w j x.tick) more ≡ count_by (λ x. in_window w j x.tick) writes
    + one_if (in_window w j write.tick) =
    sum_by_push (λ (x : GuestTouch). cond (in_window w j x.tick) 1 0) writes write in
    let count_pages = count_change (λ p. hits (in_window w j) p writes) (λ p. hits (in_window w j) p more) 0 pages page
    (omega arith) (omega arith) other_this in
    let count_again = count_change (λ p. hits (in_window w j) p writes && hits (in_window_before w j) p writes)
    (λ p. hits (in_window w j) p more && hits (in_window_before w j) p more) 0 pages page (omega arith) (omega arith)
    (λ p apart. λ i. other_this p apart i && other_before p apart i) in
    let count_fresh = count_change (λ p. hits (in_window w j) p writes && not (hits (in_earlier_window w j) p writes))
    (λ p. hits (in_window w j) p more && not (hits (in_earlier_window w j) p more)) 0 pages page (omega arith)
    (omega arith)
    (λ p apart. λ i. other_this p apart i && not (other_earlier p apart i)) in
    let one_writes : one_if (in_window w j write.tick) ≡ 1 = ap one_if inside in
    let one_pages : one_if (hits (in_window w j) page more) ≡ 1 = ap one_if now in
    let one_again : one_if (hits (in_window w j) page more && hits (in_window_before w j) page more)
    ≡ one_if (hits (in_window_before w j) page writes) =
    λ i. one_if (now i && before i) in
    let one_fresh : one_if (hits (in_window w j) page more && not (hits (in_earlier_window w j) page more))
    ≡ one_if (not (hits (in_earlier_window w j) page writes)) =
    λ i. one_if (now i && not (earlier i)) in
    same_row _ _ refl
    (omega (arith, count_writes, one_writes))
    (omega (arith, count_pages, one_pages, adds.pages))
    (omega (arith, count_again, one_again, adds.again))
    (omega (arith, count_fresh, one_fresh, adds.fresh))

-- one more write after window j
pub row_of_past : (w pages j : ℕ) (writes : List GuestTouch) (write : GuestTouch) → (j + 1) * w ≤ write.tick
    → row_of (writes ++ write ∷ []) pages w j ≡ row_of writes pages w j
unfolding row_of
row_of_past w pages j writes write late =
    let more = writes ++ write ∷ [] in
    let mono : j * w ≤ (j + 1) * w = mul-le-mul_right w (omega arith) in
    let this : (p : ℕ) → hits (in_window w j) p more ≡ hits (in_window w j) p writes =
    λ p. hits_push_out (in_window w j) p writes write (above_window w j write.tick late) in
    let before : (p : ℕ) → hits (in_window_before w j) p more ≡ hits (in_window_before w j) p writes =
    λ p. hits_push_out (in_window_before w j) p writes write (above_window_before w j write.tick (omega arith)) in
    let earlier : (p : ℕ) → hits (in_earlier_window w j) p more ≡ hits (in_earlier_window w j) p writes =
    λ p. hits_push_out (in_earlier_window w j) p writes write (above_earlier_window w j write.tick (omega arith)) in
    let count_writes : count_by (λ x. in_window w j x.tick) more ≡ count_by (λ x. in_window w j x.tick) writes
    + one_if (in_window w j write.tick) =
    sum_by_push (λ (x : GuestTouch). cond (in_window w j x.tick) 1 0) writes write in
    let none : one_if (in_window w j write.tick) ≡ 0 = ap one_if (above_window w j write.tick late) in
    same_row _ _ refl
    (omega (arith, count_writes, none))
    (λ i. count_by (λ p. this p i) (range_with_len 0 pages))
    (λ i. count_by (λ p. this p i && before p i) (range_with_len 0 pages))
    (λ i. count_by (λ p. this p i && not (earlier p i)) (range_with_len 0 pages))

count_by_none : (test : GuestTouch → Bool) (writes : List GuestTouch) → All (λ x. test x ≡ false) writes
    → count_by test writes ≡ 0
count_by_none test writes fails =
    let one : GuestTouch → ℕ = λ x. cond (test x) 1 0 in
    let small : All (λ x. cond (test x) 1 0 ≤ 0) writes =
    All-weaker (λ x. test x ≡ false) (λ x. cond (test x) 1 0 ≤ 0)
    (λ x fail. let zero : one_if (test x) ≡ 0 = ap one_if fail in omega arith) writes fails in
    let bound : sum_by one writes ≤ length writes * 0 = sum_by-le one 0 writes small in
    omega arith

-- a window after all writes
pub row_of_behind : (w pages j : ℕ) (writes : List GuestTouch) → All (λ x. x.tick < j * w) writes
    → row_of writes pages w j ≡ blank j
unfolding row_of
row_of_behind w pages j writes before =
    let out : All (λ x. in_window w j x.tick ≡ false) writes =
    All-weaker (λ x. x.tick < j * w) (λ x. in_window w j x.tick ≡ false) (λ x low. below_window w j x.tick low) writes
    before in
    let none : (p : ℕ) → hits (in_window w j) p writes ≡ false = λ p. hits_past (in_window w j) p writes out in
    same_row _ _ refl
    (count_by_none (λ x. in_window w j x.tick) writes out)
    (count_none _ 0 pages (λ p low. none p))
    (count_none _ 0 pages (λ p low. and_left _ _ (none p)))
    (count_none _ 0 pages (λ p low. and_left _ _ (none p)))

-- how large a row's counts can be
pub record IsSmall (writes pages : ℕ) (row : WindowRow) : Type 0 where
  pub writes_high : row.writes ≤ writes
  pub pages_high : row.pages ≤ pages
  pub again_high : row.again ≤ pages
  pub fresh_high : row.fresh ≤ pages

pub IsSmall-row_of : (w pages j : ℕ) (writes : List GuestTouch)
    → IsSmall (length writes) pages (row_of writes pages w j)
unfolding row_of
IsSmall-row_of w pages j writes = record {
  writes_high = count_by-le-length (λ x. in_window w j x.tick) writes;
  pages_high = count_le _ 0 pages;
  again_high = count_le _ 0 pages;
  fresh_high = count_le _ 0 pages;
}
