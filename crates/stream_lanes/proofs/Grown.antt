-- The grid of lanes, worker by worker.
use Rattle.std.proofs.Common.{Vec, Global, ◌≡◌, ◌⊎◌, inl, inr, ℕ, zero, suc, ◌+◌, ◌<◌, List, [], ◌∷◌, ◌++◌, length}
use Rattle.std.proofs.Common.{get_or, set, map, replicate, Some, refl, sym, ap, subst, ◌∙◌, arith}
use Rattle.std.specs.List.{slice_get}
use Rattle.std.proofs.lemmas.List.{length-map, length-replicate, length-set, get_or-map, get_or-replicate, length_push}
use Rattle.std.proofs.lemmas.List.Elements.{All-push}
use Rattle.std.proofs.lemmas.Option.{none-some, same_Some, slice_get_within, get_or_from_slice_get, slice_get-get_or}
use Rattle.stream_lanes.specs.Ends.{OutView, InView}
use Rattle.stream_lanes.specs.Grids.{IsNewLane, IsGrid, AddsLane, AddsWorker}

-- what is in a list with one more
pub at_push : {X : Type 0} (xs : List X) (y x : X) (k : ℕ) → slice_get (xs ++ y ∷ []) k ≡ Some x
    → (slice_get xs k ≡ Some x) ⊎ ((k ≡ length xs) × (y ≡ x))
at_push [] y x zero there = inr (refl, same_Some y x there)
at_push [] y x (suc k) there = absurd (none-some x there)
at_push (z ∷ zs) y x zero there = inl there
at_push (z ∷ zs) y x (suc k) there = elim (at_push zs y x k there) [
  | inl before ↦ inl before
  | inr last ↦ inr (ap suc last.0, last.1)
]

pub within : {X : Type 0} (xs : List X) (k : ℕ) → k < length xs → (x : X) × (slice_get xs k ≡ Some x)
within [] k low = absurd (omega (arith, low))
within (x ∷ xs) zero low = (x, refl)
within (x ∷ xs) (suc k) low = within xs k (omega (arith, low))

length_added : (capacity : ℕ) (out : OutView) (before after : List InView) → AddsLane capacity out before after
    → length after ≡ length before + 1
length_added capacity out before after adds = ap length adds.added ∙ length_push before adds.end

-- an end in a list with one more was there before, or is that of the new lane
at_added : (capacity : ℕ) (out : OutView) (before after : List InView) (end : InView) (worker : ℕ)
    → AddsLane capacity out before after
    → slice_get after worker ≡ Some end → (slice_get before worker ≡ Some end)
    ⊎ ((worker ≡ length before) × IsNewLane capacity out end)
at_added capacity out before after end worker adds there =
    elim (at_push before adds.end end worker (ap (λ (ends : List InView). slice_get ends worker) (sym adds.added)
    ∙ there)) [
      | inl kept ↦ inl kept
      | inr last ↦ inr (last.0, subst (λ (e : InView). IsNewLane capacity out e) last.1 adds.new)
    ]

-- an element in a slot of one row is the element in that slot of an equal row
same_out : (row other : Vec OutView Global) (stream : ℕ) (a b : OutView) → row ≡ other
    → slice_get row.items stream ≡ Some a
    → slice_get other.items stream ≡ Some b → a ≡ b
same_out row other stream a b same a_is b_is =
    same_Some a b (sym a_is ∙ ap (λ (r : Vec OutView Global). slice_get r.items stream) same ∙ b_is)

pub set_other : {X : Type 0} (xs : List X) (n k : ℕ) (y : X) → (k ≡ n → ⊥) → slice_get (set xs n y) k ≡ slice_get xs k
set_other [] n k y apart = refl
set_other (x ∷ xs) zero zero y apart = absurd (apart refl)
set_other (x ∷ xs) zero (suc k) y apart = refl
set_other (x ∷ xs) (suc n) zero y apart = refl
set_other (x ∷ xs) (suc n) (suc k) y apart = set_other xs n k y (λ e. apart (ap suc e))

pub set_same : {X : Type 0} (xs : List X) (n k : ℕ) (y : X) → k ≡ n → n < length xs → slice_get (set xs n y) k ≡ Some y
set_same [] n k y is low = absurd (omega (arith, low))
set_same (x ∷ xs) zero zero y is low = refl
set_same (x ∷ xs) zero (suc k) y is low = absurd (omega (arith, is))
set_same (x ∷ xs) (suc n) zero y is low = absurd (omega (arith, is))
set_same (x ∷ xs) (suc n) (suc k) y is low = set_same xs n k y (omega (arith, is)) (omega (arith, low))

-- an element before the slot that is set
pub is_kept : {X Y : Type 0} (front : List X) (before : List Y) (n k : ℕ) (x : X) (new y : Y) → n ≡ length front
    → slice_get front k ≡ Some x → slice_get (set before n new) k ≡ Some y → slice_get before k ≡ Some y
is_kept front before n k x new y here earlier is =
    let high = slice_get_within front k x earlier in
    sym (set_other before n k new (λ e. omega (arith, high, here, e))) ∙ is

-- the element that is set in a slot, and the one that was there before
pub is_set : {X : Type 0} (first before : List X) (n k : ℕ) (old new a b : X) → k ≡ n → n < length before
    → old ≡ get_or before n old → slice_get before k ≡ slice_get first k → slice_get first k ≡ Some a
    → slice_get (set before n new) k ≡ Some b → (old ≡ a) × (new ≡ b)
is_set {X} first before n k old new a b same low there kept a_is b_is = (
  same_Some old a (ap (λ (x : X). Some x) there ∙ sym (slice_get-get_or before n old low)
      ∙ ap (λ i. slice_get before i) (sym same) ∙ kept ∙ a_is),
  same_Some new b (sym (set_same before n k new same low) ∙ b_is),
)

-- one more lane of a worker
pub worker-more : (capacity : ℕ) (front : List OutView) (out : OutView) (first before : List (Vec InView Global))
    (n : ℕ) (old new : Vec InView Global)
    → n ≡ length front → n < length before → old ≡ get_or before n old → AddsLane capacity out old.items new.items
    → AddsWorker capacity front first before
    → AddsWorker capacity (front ++ out ∷ []) first (set before n new)
worker-more capacity front out first before n old new here low there lane adds = record {
  count = length-set before n new ∙ adds.count;
  added = λ stream o a b o_is a_is b_is. elim (at_push front out o stream o_is) [
    | inl earlier ↦
        adds.added stream o a b earlier a_is (is_kept front before n stream o new b here earlier b_is)
    | inr last ↦
        let same = is_set first before n stream old new a b (last.0 ∙ sym here) low there
        (adds.rest stream (omega (arith, last.0))) a_is b_is in
        subst (λ (e : OutView). AddsLane capacity e a.items b.items) last.1
        (subst (λ (v : Vec InView Global). AddsLane capacity out v.items b.items) same.0
        (subst (λ (v : Vec InView Global). AddsLane capacity out old.items v.items) same.1 lane))
  ];
  rest = λ stream past.
      let long = length_push front out in
      set_other before n stream new (λ e. omega (arith, past, long, here, e))
      ∙ adds.rest stream (omega (arith, past, long));
}

abbrev no_end : List InView
no_end = []

pub grid-none : (streams capacity : ℕ) (ins : List (Vec InView Global))
    → map (λ row. row.items) ins ≡ replicate streams []
    → IsGrid 0 streams capacity [] ins
grid-none streams capacity ins empty =
    let count : length ins ≡ streams = sym (length-map ins (λ (row : Vec InView Global). row.items)) ∙ ap length empty
    ∙ length-replicate streams no_end in
    record {
      workers_are = refl;
      streams_are = count;
      out_rows = λ k d low. omega (arith, low);
      in_rows = λ k d low.
          sym (ap length (get_or-map (λ (row : Vec InView Global). row.items) ins k d no_end low))
          ∙ ap (λ (rows : List (List InView)). length (get_or rows k no_end)) empty
          ∙ ap length (get_or-replicate streams k no_end no_end (omega (arith, low, count)));
      lanes = λ worker stream out_row out in_row end out_row_is. absurd (none-some out_row out_row_is);
    }

pub grid-more : (workers streams capacity : ℕ) (outs : List (Vec OutView Global)) (row : Vec OutView Global)
    (before after : List (Vec InView Global))
    → IsGrid workers streams capacity outs before → length row.items ≡ length before
    → AddsWorker capacity row.items before after
    → IsGrid (workers + 1) streams capacity (outs ++ row ∷ []) after
grid-more workers streams capacity outs row before after grid count adds =
    let old_size : (stream : ℕ) (old : Vec InView Global) → slice_get before stream ≡ Some old
    → length old.items ≡ workers =
    λ stream old is. ap (λ (r : Vec InView Global). length r.items)
    (sym (get_or_from_slice_get before stream old old is))
    ∙ grid.in_rows stream old (slice_get_within before stream old is) in
    let added : (stream : ℕ) (old new : Vec InView Global) → slice_get before stream ≡ Some old
    → slice_get after stream ≡ Some new
    → (out : OutView) × (slice_get row.items stream ≡ Some out) × AddsLane capacity out old.items new.items =
    λ stream old new old_is new_is.
    let low = slice_get_within before stream old old_is in
    let out = within row.items stream (omega (arith, low, count)) in
    (out.0, out.1, adds.added stream out.0 old new out.1 old_is new_is) in
    record {
      workers_are = length_push outs row ∙ ap (λ n. n + 1) grid.workers_are;
      streams_are = adds.count ∙ grid.streams_are;
      out_rows = All-push (λ (r : Vec OutView Global). length r.items ≡ streams) outs row grid.out_rows
          (count ∙ grid.streams_are);
      in_rows = λ k d low.
          let old = within before k (omega (arith, low, adds.count)) in
          let lane = added k old.0 (get_or after k d) old.1 (slice_get-get_or after k d low) in
          let longer = length_added capacity lane.0 old.0.items (get_or after k d).items lane.2 in
          omega (arith, longer, old_size k old.0 old.1);
      lanes = λ worker stream out_row out in_row end out_row_is out_is in_row_is end_is.
          let low = slice_get_within after stream in_row in_row_is in
          let old = within before stream (omega (arith, low, adds.count)) in
          let size = old_size stream old.0 old.1 in
          let lane = added stream old.0 in_row old.1 in_row_is in
          let end_at = at_added capacity lane.0 old.0.items in_row.items end worker lane.2 end_is in
          elim (at_push outs row out_row worker out_row_is) [
            | inl earlier ↦
                elim end_at [
                  | inl kept ↦ grid.lanes worker stream out_row out old.0 end earlier out_is old.1 kept
                  | inr last ↦
                      let high = slice_get_within outs worker out_row earlier in
                      absurd (omega (arith, high, last.0, size, grid.workers_are))
                ]
            | inr new ↦
                elim end_at [
                  | inl kept ↦
                      let high = slice_get_within old.0.items worker end kept in
                      absurd (omega (arith, high, new.0, size, grid.workers_are))
                  | inr last ↦ subst (λ (o : OutView). IsNewLane capacity o end)
                      (same_out row out_row stream lane.0 out new.1 lane.1 out_is) last.1
                ]
          ];
    }
