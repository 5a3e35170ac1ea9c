-- What the copiers of a round sent altogether.
use Rattle.std.proofs.Common.{◌≡◌, ℕ, zero, suc, ◌+◌, ◌<◌, ◌≤◌, ◌⊎◌, inl, inr, Bool, true, cond, eqb, List, [], ◌∷◌}
use Rattle.std.proofs.Common.{length, map, get_or, refl, sym, ap, subst, ◌∙◌, arith}
use Rattle.std.specs.Prelude.{Some, slice_get}
use Rattle.std.specs.List.{Contains, count_by, flat_map}
use Rattle.std.proofs.lemmas.Bool.{eq-eqb}
use Rattle.std.proofs.lemmas.List.{append-nil, get_or-map, length-map}
use Rattle.std.proofs.lemmas.List.Sums.{sum_by-append, sum_by-cons}
use Rattle.std.proofs.lemmas.Option.{none-some, slice_get_within, get_or_from_slice_get, slice_get-get_or, same_Some}
use Rattle.migration_model.specs.Trace.{GuestTrace}
use Rattle.migration_model.specs.Live.{page_copier, pages_sent, sent_by_copier}
use Rattle.dirty_words.specs.Seats.{TableView}
use Rattle.stream_lanes.specs.Ends.{LaneId, OutView, IsSentOn}
use Rattle.live_tasks.specs.declared.copier.Copier.{Copier}
use Rattle.live_tasks.specs.RoundLogs.{IsCrowded, IsPosted, SpellsPage, frames_sent}
use Rattle.live_engine.specs.Seated.{AreCopied, IsCopied}
use Rattle.live_engine.specs.Joining.{HavePosted, IsSentBy, lanes_of}
use Rattle.live_engine.proofs.Each.{any_at, any_there, each_got, made_of, makes_at, pick, same_at}
use Rattle.live_engine.proofs.Leaving.{pages_by, round_of}
use Rattle.live_engine.proofs.ScanOrder.{in_all, in_piece}

-- ---- how many

-- all elements of a list are counted
count_whole : {X : Type 0} (p : X → Bool) (xs : List X) → ((x : X) → Contains xs x → p x ≡ true) → count_by p xs
    ≡ length xs
count_whole p [] all = refl
count_whole p (x ∷ xs) all =
    let here : ◌≡◌ {A = ℕ} (cond (p x) 1 0) 1 = ap (λ (b : Bool). cond b 1 0) (all x (0, omega arith, refl)) in
    let rest = count_whole p xs (λ y c. all y (let low = c.1 in (suc c.0, omega (arith, low), c.2))) in
    omega (arith, here, rest, sum_by-cons (λ y. cond (p y) 1 0) x xs)

-- no more are counted in one of some lists than in all of them
count_piece : {X Y : Type 0} (p : Y → Bool) (f : X → List Y) (xs : List X) (i : ℕ) (x : X) → slice_get xs i ≡ Some x
    → count_by p (f x) ≤ count_by p (flat_map f xs)
count_piece p f [] i x there = absurd (none-some x there)
count_piece p f (y ∷ ys) zero x there =
    let same : count_by p (f y) ≡ count_by p (f x) = ap (λ z. count_by p (f z)) (same_Some y x there) in
    omega (arith, same, sum_by-append (λ z. cond (p z) 1 0) (f y) (flat_map f ys))
count_piece p f (y ∷ ys) (suc i) x there =
    let rest = count_piece p f ys i x there in
    omega (arith, rest, sum_by-append (λ z. cond (p z) 1 0) (f y) (flat_map f ys))

abbrev pages_of : Copier → List ℕ
pages_of c = map (λ (s : ℕ × ℕ). s.0) c.state.log.sent

abbrev outs_by : Copier → List OutView
outs_by c = c.state.outs

abbrev ids : List OutView → List LaneId
ids outs = map (λ (out : OutView). out.lane) outs

module _ (trace : GuestTrace) (skip : Bool) (table : TableView) (streams : ℕ) (rows : List (List OutView))
    (copiers : List Copier)
    (is : AreCopied trace skip table streams rows copiers) (count : length rows ≡ length copiers)
    (own : (i : ℕ) (copier : Copier) (page : ℕ) → slice_get copiers i ≡ Some copier → Contains (pages_of copier) page
    ⊎ Contains copier.state.log.deferred page
    → page_copier table.start.copiers page ≡ i) where
  -- what the copier at a place did
  posted_at : (i : ℕ) (copier : Copier) → slice_get copiers i ≡ Some copier
      → IsPosted trace (get_or rows i []) copier.state.log copier.state.outs
  posted_at i copier there = (each_got (IsCopied trace skip table streams rows) copiers i copier is.each there).posted

  -- a copier for each row, and a row for each copier
  copier_at : (i : ℕ) (outs : List OutView) → slice_get rows i ≡ Some outs → (copier : Copier)
      × (slice_get copiers i ≡ Some copier)
  copier_at i outs there =
      let low = slice_get_within rows i outs there in
      let inside : i < length copiers = omega (arith, low, count) in
      let p = pick copiers i inside in
      (p.0, slice_get-get_or copiers i p.0 inside ∙ ap Some (sym p.1))

  row_at : (i : ℕ) (copier : Copier) → slice_get copiers i ≡ Some copier → slice_get rows i ≡ Some (get_or rows i [])
  row_at i copier there = (let low = slice_get_within copiers i copier there in slice_get-get_or rows i []
      (omega (arith, low, count)))

  abbrev after : List (List OutView)
  after = map outs_by copiers

  kept : (text : List ℕ) → IsSentBy rows text → IsSentBy after text
  kept text sent =
      let found = any_there (λ outs. IsSentOn outs text) rows sent in
      let copier = copier_at found.0 found.1 found.2 in
      let row : get_or rows found.0 [] ≡ found.1 = get_or_from_slice_get rows found.0 found.1 [] found.2 in
      any_at (λ outs. IsSentOn outs text) after found.0 copier.0.state.outs
      (makes_at outs_by copiers found.0 copier.0 copier.1)
      ((posted_at found.0 copier.0 copier.1).kept text (subst (λ outs. IsSentOn outs text) (sym row) found.3))

  new : (text : List ℕ) → IsSentBy after text
      → IsSentBy rows text ⊎ ((page : ℕ) × (place : ℕ) × Contains (round_of copiers).sent (page, place)
      × SpellsPage trace page place text)
  new text sent =
      let found = any_there (λ outs. IsSentOn outs text) after sent in
      let copier = made_of outs_by copiers found.0 found.1 found.2 in
      elim ((posted_at found.0 copier.0 copier.1).new text
      (subst (λ outs. IsSentOn outs text) (sym copier.2) found.3)) [
        | inl earlier ↦ inl (any_at (λ outs. IsSentOn outs text) rows found.0 (get_or rows found.0 [])
            (row_at found.0 copier.0 copier.1) earlier)
        | inr now ↦ inr (
          now.0,
          now.1,
          in_all (λ (c : Copier). c.state.log.sent) copiers found.0 copier.0 (now.0, now.1)
              copier.1 now.2,
          now.3,
        )
      ]

  all : (page place : ℕ) → Contains (round_of copiers).sent (page, place) → (text : List ℕ) × IsSentBy after text
      × SpellsPage trace page place text
  all page place sent =
      let found = in_piece (λ (c : Copier). c.state.log.sent) copiers (page, place) sent in
      let text = (posted_at found.0 found.1 found.2).all page place found.3 in (
        text.0,
        any_at (λ outs. IsSentOn outs text.0) after found.0 found.1.state.outs
            (makes_at outs_by copiers found.0 found.1 found.2) text.1,
        text.2,
      )

  abbrev by : ℕ → ℕ → Bool
  by i page = eqb (page_copier table.start.copiers page) i

  pages_sent_by : flat_map pages_sent (round_of copiers ∷ []) ≡ flat_map pages_of copiers
  pages_sent_by = append-nil (pages_sent (round_of copiers)) ∙ pages_by copiers

  counts : (i : ℕ) (old outs : List OutView) → slice_get rows i ≡ Some old → slice_get after i ≡ Some outs
      → frames_sent outs ≤ frames_sent old + sent_by_copier table.start.copiers (round_of copiers ∷ []) i
  counts i old outs there now =
      let copier = made_of outs_by copiers i outs now in
      let posted = posted_at i copier.0 copier.1 in
      let row : get_or rows i [] ≡ old = get_or_from_slice_get rows i old [] there in
      let sum : frames_sent outs ≡ frames_sent old + length copier.0.state.log.sent =
      sym (ap frames_sent copier.2) ∙ posted.count
      ∙ ap (λ (o : List OutView). frames_sent o + length copier.0.state.log.sent) row in
      let size : length (pages_of copier.0) ≡ length copier.0.state.log.sent = length-map copier.0.state.log.sent
      (λ (s : ℕ × ℕ). s.0) in
      let whole : count_by (by i) (pages_of copier.0) ≡ length (pages_of copier.0) =
      count_whole (by i) (pages_of copier.0) (λ page c. eq-eqb (page_copier table.start.copiers page) i
      (own i copier.0 page copier.1 (inl c))) in
      let piece = count_piece (by i) pages_of copiers i copier.0 copier.1 in
      let same : count_by (by i) (flat_map pages_sent (round_of copiers ∷ []))
      ≡ count_by (by i) (flat_map pages_of copiers) = ap (count_by (by i)) pages_sent_by in
      omega (arith, sum, size, whole, piece, same)

  crowded : (page : ℕ) → Contains (round_of copiers).deferred page
      → (outs : List OutView) × (slice_get after (page_copier table.start.copiers page) ≡ Some outs) × IsCrowded outs
  crowded page deferred =
      let found = in_piece (λ (c : Copier). c.state.log.deferred) copiers page deferred in
      let place : page_copier table.start.copiers page ≡ found.0 = own found.0 found.1 page found.2 (inr found.3) in (
        found.1.state.outs,
        ap (slice_get after) place ∙ makes_at outs_by copiers found.0 found.1 found.2,
        (posted_at found.0 found.1 found.2).crowded page found.3,
      )

  lanes : lanes_of after ≡ lanes_of rows
  lanes = same_at (lanes_of after) (lanes_of rows)
      (length-map after ids ∙ length-map copiers outs_by ∙ sym count ∙ sym (length-map rows ids)) (λ i d low.
      let inside : i < length rows = omega (arith, low, length-map after ids, length-map copiers outs_by, count) in
      let row = slice_get-get_or rows i [] inside in
      let copier = copier_at i (get_or rows i []) row in
      let low_after : i < length after = omega (arith, low, length-map after ids) in
      get_or-map ids after i copier.0.state.outs d low_after
      ∙ ap ids (get_or_from_slice_get after i copier.0.state.outs copier.0.state.outs
      (makes_at outs_by copiers i copier.0 copier.1))
      ∙ (posted_at i copier.0 copier.1).lanes ∙ sym (get_or-map ids rows i [] d inside))

  pub have_posted : HavePosted trace table.start.copiers (round_of copiers) rows (map outs_by copiers)
  have_posted = record { lanes = lanes; kept = kept; new = new; all = all; count = counts; crowded = crowded }
