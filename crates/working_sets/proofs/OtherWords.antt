-- The window of each write has its row.
use Rattle.std.proofs.Common.{◌≡◌, ℕ, zero, suc, ◌+◌, ◌/◌, ◌<◌, ◌≤◌, Bool, true, cond, List, [], ◌∷◌, ◌++◌, ◌-◌, length}
use Rattle.std.proofs.Common.{get_or, map, refl, sym, ap, subst, ◌∙◌, inl, inr, arith}
use Rattle.std.specs.List.{All, Contains, filter, fold, range_with_len}
use Rattle.std.proofs.lemmas.Nat.{le-div}
use Rattle.std.proofs.lemmas.Bool.{cases_eq, le-leb}
use Rattle.std.proofs.lemmas.List.Elements.{Contains-append_left, Contains-push}
use Rattle.std.proofs.lemmas.List.FromFn.{filter_of_map_range_with_len_more}
use Rattle.std.proofs.lemmas.List.Sums.{get_or-le-sum_by}
use Rattle.migration_model.specs.Trace.{last_by}
use Rattle.migration_model.specs.Touches.{GuestTouch, AreTouches}
use Rattle.migration_model.specs.Windows.{row_of, rows_of, windows_of}
use Rattle.working_sets.specs.Counting.{one_if}
use Rattle.working_sets.proofs.Last.{in_window, in_window_from}
use Rattle.working_sets.proofs.Shown.{has_write, quotient_low, quotient_high}

-- what passes is kept
kept_row : {X : Type 0} (p : X → Bool) (f : ℕ → X) (j n : ℕ) → j < n → p (f j) ≡ true
    → Contains (filter p (map f (range_with_len 0 n))) (f j)
kept_row p f j zero low passes = absurd (omega arith)
kept_row {X} p f j (suc n) low passes =
    let next : n + 1 ≡ suc n = omega arith in
    let more : filter p (map f (range_with_len 0 (n + 1))) ≡ filter p (map f (range_with_len 0 n))
    ++ cond (p (f n)) (f n ∷ []) [] =
    filter_of_map_range_with_len_more p f 0 n n (omega arith) in
    let here : Contains (filter p (map f (range_with_len 0 n)) ++ cond (p (f n)) (f n ∷ []) []) (f j) =
    elim (cases_eq j n) [
      | inl same ↦
          let at_n : p (f n) ≡ true = ap (λ i. p (f i)) (sym same) ∙ passes in
          rw (same, at_n) (Contains-push (filter p (map f (range_with_len 0 n))) (f n))
      | inr other ↦ Contains-append_left _ _ (f j) (kept_row p f j n (omega (arith, other)) passes)
    ] in
    let C : List X → Type 0 = λ l. Contains l (f j) in
    subst (λ m. Contains (filter p (map f (range_with_len 0 m))) (f j)) next (subst C (sym more) here)

-- the last tick is that of the last write
last_tick_at : (start i : ℕ) (writes : List GuestTouch) (d : GuestTouch) → length writes ≡ suc i
    → fold (λ tick (w : GuestTouch). w.tick) start writes ≡ (get_or writes i d).tick
last_tick_at start i [] d len = absurd (omega arith)
last_tick_at start zero (x ∷ []) d len = refl
last_tick_at start zero (x ∷ y ∷ writes) d len = absurd (omega arith)
last_tick_at start (suc i) (x ∷ []) d len = absurd (omega arith)
last_tick_at start (suc i) (x ∷ y ∷ writes) d len = last_tick_at x.tick i (y ∷ writes) d (omega arith)

pub row_of_each_write : (pages : ℕ) (writes : List GuestTouch) (w : ℕ) → AreTouches pages writes → 1 ≤ w
    → All (λ write. Contains (rows_of writes pages w) (row_of writes pages w (write.tick / w))) writes
unfolding rows_of row_of
row_of_each_write pages writes w is some k d low =
    let write = get_or writes k d in
    let last : last_by (λ t. t.tick) writes ≡ (get_or writes (length writes - 1) d).tick =
    last_tick_at 0 (length writes - 1) writes d (omega arith) in
    let order : write.tick ≤ (get_or writes (length writes - 1) d).tick =
    is.in_order k (length writes - 1) d (omega arith) (omega arith) in
    let j = write.tick / w in
    let under : j ≤ last_by (λ t. t.tick) writes / w = le-div j (last_by (λ t. t.tick) writes) w (omega arith)
    (omega (arith, quotient_low write.tick w)) in
    let inside : in_window w j write.tick ≡ true = in_window_from w j write.tick (quotient_low write.tick w)
    (quotient_high write.tick w some) in
    let one : one_if (in_window w j write.tick) ≡ 1 = ap one_if inside in
    let counted = get_or-le-sum_by (λ (x : GuestTouch). cond (in_window w j x.tick) 1 0) writes k d low in
    kept_row has_write (row_of writes pages w) j (windows_of writes w) (omega arith)
    (le-leb _ _ (omega (arith, counted, one)))
