-- The touches of a trace.
use Rattle.std.proofs.Common.{◌≡◌, ℕ, inl, inr, ◌<◌, ◌≤◌, Bool, true, false, ltb, leb, eqb, ◌&&◌, ◌||◌, ◌↔◌, List, [], ◌∷◌}
use Rattle.std.proofs.Common.{length, get_or, map, refl, sym, ap, ◌∙◌, arith, true≢false}
use Rattle.std.specs.Prelude.{IsTrue}
use Rattle.std.specs.List.{list_any}
use Rattle.std.specs.List.Sorted.{IsPartitionPoint}
use Rattle.std.proofs.lemmas.Bool.{and_parts, and_from, cases_lt, eqb-true, leb-true, ltb-true, eq-eqb, le-leb, lt-ltb}
use Rattle.std.proofs.lemmas.List.Folds.{Any-from_list_any, list_any-from_Any}
use Rattle.std.proofs.lemmas.List.{length-map, get_or-map}
use Rattle.migration_model.specs.Trace.{GuestWrite, GuestTrace, IsTrace, write_with}
use Rattle.migration_model.specs.Touches.{GuestTouch, touch_of, touches_of, AreTouches, ArePlacedBefore, is_written}
use Rattle.migration_model.specs.Touches.{no_touch}
use Rattle.migration_model.specs.Versions.{IsWritten}

no_write : GuestWrite
no_write = write_with 0 0 0 []

-- a touch is that of the write with the same index
touch_at : (writes : List GuestWrite) (i : ℕ) (d : GuestTouch) → i < length writes
    → get_or (map touch_of writes) i d ≡ touch_of (get_or writes i no_write)
touch_at writes i d low = get_or-map touch_of writes i no_write d low

pub AreTouches-from_trace : (trace : GuestTrace) → IsTrace trace → AreTouches trace.pages (touches_of trace)
AreTouches-from_trace trace is =
    let writes = trace.writes in
    let len : length (map touch_of writes) ≡ length writes = length-map writes touch_of in
    record {
      few = omega (arith, len, is.count);
      each = λ i d low.
          let inside : i < length writes = omega (arith, len) in
          let fits = is.writes.each i no_write inside in
          rw (touch_at writes i d inside) (record { tick = fits.tick; page = fits.page });
      in_order = λ i j d le low.
          let inside : j < length writes = omega (arith, len) in
          rw (touch_at writes i d (omega arith), touch_at writes j d inside)
          (is.writes.in_order i j no_write le inside);
    }

-- where the writes before a tick end, so do the touches
pub point_of_touches : (writes : List GuestWrite) (tick n : ℕ) → n ≤ length writes
    → IsPartitionPoint (λ (w : GuestWrite). ltb w.tick tick ≡ true) (λ w. ltb w.tick tick ≡ false) writes n
    → IsPartitionPoint (λ (t : GuestTouch). ltb t.tick tick ≡ true) (λ t. ltb t.tick tick ≡ false) (map touch_of writes)
    n
point_of_touches writes tick n bound point =
    let len : length (map touch_of writes) ≡ length writes = length-map writes touch_of in (
      (λ k d low high. let inside : k < length writes = omega arith in rw (touch_at writes k d inside)
          (point.0 k no_write low high)),
      (λ k d low high. let inside : k < length writes = omega (arith, len) in rw (touch_at writes k d inside)
          (point.1 k no_write low inside)),
    )

-- ---- which pages are written, as a test

list_any_map : {X Y : Type 0} (p : Y → Bool) (f : X → Y) (xs : List X)
    → list_any p (map f xs) ≡ list_any (λ x. p (f x)) xs
list_any_map p f [] = refl
list_any_map p f (x ∷ xs) = ap (λ b. p (f x) || b) (list_any_map p f xs)

abbrev hits : ℕ → ℕ → ℕ → GuestWrite → Bool
hits from to page w = eqb w.page page && (leb from w.tick && ltb w.tick to)

written_from : (trace : GuestTrace) (from to page : ℕ) → list_any (hits from to page) trace.writes ≡ true
    → IsWritten trace from to page
written_from trace from to page hit =
    let any = Any-from_list_any (hits from to page) trace.writes hit in
    let w = any.1 in
    let parts = and_parts (eqb w.page page) (leb from w.tick && ltb w.tick to) any.4 in
    let ticks = and_parts (leb from w.tick) (ltb w.tick to) parts.1 in
    (any.0, w, any.2, any.3, (eqb-true _ _ parts.0, leb-true _ _ ticks.0, ltb-true _ _ ticks.1))

written_to : (trace : GuestTrace) (from to page : ℕ) → IsWritten trace from to page
    → list_any (hits from to page) trace.writes ≡ true
written_to trace from to page any =
    let w = any.1 in
    let is = any.4 in
    let passes : hits from to page w ≡ true = and_from _ _ (eq-eqb _ _ is.0)
    (and_from _ _ (le-leb _ _ is.1) (lt-ltb _ _ is.2)) in
    list_any-from_Any (hits from to page) trace.writes (any.0, w, any.2, any.3, passes)

pub written_is_lem : (trace : GuestTrace) (from to page : ℕ)
    → IsTrue (is_written (touches_of trace) from to page) ↔ IsWritten trace from to page
written_is_lem trace from to page =
    let same : is_written (touches_of trace) from to page ≡ list_any (hits from to page) trace.writes =
    list_any_map (λ (t : GuestTouch). eqb t.page page && (leb from t.tick && ltb t.tick to)) touch_of trace.writes in
    ((λ hit. written_from trace from to page (sym same ∙ hit)), (λ is. same ∙ written_to trace from to page is))

-- if fewer touches are before a tick, the next one is and is not before it
no_fewer : (touches : List GuestTouch) (tick m n : ℕ) → m < n → n ≤ length touches → ArePlacedBefore touches tick m
    → ArePlacedBefore touches tick n → ⊥
no_fewer touches tick m n less within at_m at_n =
    true≢false (sym (at_n.0 m no_touch (omega arith) less) ∙ at_m.1 m no_touch (omega arith) (omega arith))

pub one_count_lem : (touches : List GuestTouch) (tick m n : ℕ) → m ≤ length touches → n ≤ length touches
    → ArePlacedBefore touches tick m → ArePlacedBefore touches tick n → m ≡ n
one_count_lem touches tick m n within_m within_n at_m at_n = elim (cases_lt m n) [
  | inl lt ↦ absurd (no_fewer touches tick m n lt within_n at_m at_n)
  | inr ge ↦ elim (cases_lt n m) [
    | inl lt ↦ absurd (no_fewer touches tick n m lt within_m at_n at_m)
    | inr le ↦ omega (arith, ge, le)
  ]
]
