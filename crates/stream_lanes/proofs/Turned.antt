-- The sending ends, transposed from workers to streams, worker by worker.
use Rattle.std.proofs.Common.{Vec, Global, ◌≡◌, inl, inr, ℕ, zero, suc, ◌+◌, ◌<◌, List, [], ◌∷◌, ◌++◌, length, get_or}
use Rattle.std.proofs.Common.{set, map, replicate, Some, refl, sym, ap, subst, ◌∙◌, arith}
use Rattle.std.specs.List.{All, slice_get}
use Rattle.std.proofs.lemmas.List.{length-append, length-set, length-map, length-replicate, get_or-append-add}
use Rattle.std.proofs.lemmas.List.{get_or-map, get_or-replicate, length_push}
use Rattle.std.proofs.lemmas.Option.{none-some, slice_get_within, get_or_from_slice_get, slice_get-get_or}
use Rattle.stream_lanes.specs.Ends.{OutView}
use Rattle.stream_lanes.specs.Grids.{AreColumns, AddsRow}
use Rattle.stream_lanes.proofs.Grown.{at_push, within, set_other, is_kept, is_set}

-- what was in a list is there after one more
before_push : {X : Type 0} (xs : List X) (y : X) (k : ℕ) → k < length xs → slice_get (xs ++ y ∷ []) k ≡ slice_get xs k
before_push [] y k low = absurd (omega (arith, low))
before_push (x ∷ xs) y zero low = refl
before_push (x ∷ xs) y (suc k) low = before_push xs y k (omega (arith, low))

last_push : {X : Type 0} (xs : List X) (y : X) (k : ℕ) → k ≡ length xs → slice_get (xs ++ y ∷ []) k ≡ Some y
last_push [] y zero is = refl
last_push [] y (suc k) is = absurd (omega (arith, is))
last_push (x ∷ xs) y zero is = absurd (omega (arith, is))
last_push (x ∷ xs) y (suc k) is = last_push xs y k (omega (arith, is))

abbrev no_end : List OutView
no_end = []

pub columns-none : (streams : ℕ) (columns : List (Vec OutView Global))
    → map (λ column. column.items) columns ≡ replicate streams [] → AreColumns streams [] columns
columns-none streams columns empty =
    let count : length columns ≡ streams = sym (length-map columns (λ (column : Vec OutView Global). column.items))
    ∙ ap length empty ∙ length-replicate streams no_end in
    record {
      count = count;
      sizes = λ k d low.
          sym (ap length (get_or-map (λ (column : Vec OutView Global). column.items) columns k d no_end low))
          ∙ ap (λ (rows : List (List OutView)). length (get_or rows k no_end)) empty
          ∙ ap length (get_or-replicate streams k no_end no_end (omega (arith, low, count)));
      same = λ worker stream row column row_is. absurd (none-some row row_is);
    }

pub columns-more : (streams : ℕ) (rows : List (Vec OutView Global)) (row : Vec OutView Global)
    (before after : List (Vec OutView Global))
    → AreColumns streams rows before → length row.items ≡ length before → AddsRow row.items before after
    → AreColumns streams (rows ++ row ∷ []) after
columns-more streams rows row before after columns count adds =
    let old_size : (stream : ℕ) (old : Vec OutView Global) → slice_get before stream ≡ Some old
    → length old.items ≡ length rows =
    λ stream old is. ap (λ (r : Vec OutView Global). length r.items)
    (sym (get_or_from_slice_get before stream old old is))
    ∙ columns.sizes stream old (slice_get_within before stream old is) in
    let added : (stream : ℕ) (new : Vec OutView Global) → slice_get after stream ≡ Some new
    → (old : Vec OutView Global) × (out : OutView) × (slice_get before stream ≡ Some old)
    × (slice_get row.items stream ≡ Some out) × (new.items ≡ old.items ++ out ∷ []) =
    λ stream new new_is.
    let low = slice_get_within after stream new new_is in
    let old = within before stream (omega (arith, low, adds.count)) in
    let out = within row.items stream (omega (arith, low, adds.count, count)) in
    (old.0, out.0, old.1, out.1, adds.added stream out.0 old.0 new out.1 old.1 new_is) in
    record {
      count = adds.count ∙ columns.count;
      sizes = λ k d low.
          let one = added k (get_or after k d) (slice_get-get_or after k d low) in
          ap length one.4 ∙ length_push one.0.items one.1 ∙ ap (λ n. n + 1) (old_size k one.0 one.2)
          ∙ sym (length_push rows row);
      same = λ worker stream r column r_is column_is.
          let one = added stream column column_is in
          let size = old_size stream one.0 one.2 in
          ap (λ (ends : List OutView). slice_get ends worker) one.4
          ∙ elim (at_push rows row r worker r_is) [
            | inl earlier ↦
                let low = slice_get_within rows worker r earlier in
                before_push one.0.items one.1 worker (omega (arith, low, size))
                ∙ columns.same worker stream r one.0 earlier one.2
            | inr last ↦
                last_push one.0.items one.1 worker (omega (arith, last.0, size)) ∙ sym one.3
                ∙ ap (λ (v : Vec OutView Global). slice_get v.items stream) last.1
          ];
    }

-- ---- the ends of one worker, one after the other

pub adds-more : (front : List OutView) (out : OutView) (first before : List (Vec OutView Global)) (n : ℕ)
    (old new : Vec OutView Global) → n ≡ length front
    → n < length before → old ≡ get_or before n old → new.items ≡ old.items ++ out ∷ [] → AddsRow front first before
    → AddsRow (front ++ out ∷ []) first (set before n new)
adds-more front out first before n old new here low there pushed adds = record {
  count = length-set before n new ∙ adds.count;
  added = λ stream o a b o_is a_is b_is. elim (at_push front out o stream o_is) [
    | inl earlier ↦
        adds.added stream o a b earlier a_is (is_kept front before n stream o new b here earlier b_is)
    | inr last ↦
        let same = is_set first before n stream old new a b (last.0 ∙ sym here) low there
        (adds.rest stream (omega (arith, last.0))) a_is b_is in
        ap (λ (v : Vec OutView Global). v.items) (sym same.1) ∙ pushed
        ∙ ap (λ (v : Vec OutView Global). v.items ++ out ∷ []) same.0 ∙ ap (λ (e : OutView). a.items ++ e ∷ []) last.1
  ];
  rest = λ stream past.
      let long = length_push front out in
      set_other before n stream new (λ e. omega (arith, past, long, here, e))
      ∙ adds.rest stream (omega (arith, past, long));
}

pub adds-none : (columns : List (Vec OutView Global)) → AddsRow [] columns columns
adds-none columns = record {
  count = refl;
  added = λ stream out old new out_is. absurd (none-some out out_is);
  rest = λ stream past. refl;
}

-- the next of the remaining ones is one of all
pub next_holds : {X : Type 0} (P : X → Type 0) (front old rest all : List X) (x : X) → old ≡ x ∷ rest
    → front ++ old ≡ all → All P all → P x
next_holds P front old rest all x steps is holds =
    let here : get_or all (length front + 0) x ≡ x = ap (λ l. get_or l (length front + 0) x)
    (sym is ∙ ap (λ l. front ++ l) steps) ∙ get_or-append-add front (x ∷ rest) 0 x in
    let len : length all ≡ length front + length (x ∷ rest) = ap length (sym is ∙ ap (λ l. front ++ l) steps)
    ∙ length-append front (x ∷ rest) in
    subst P here (holds (length front + 0) x (omega (arith, len)))
