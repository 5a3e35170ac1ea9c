-- What was sent on lanes.
use Rattle.std.proofs.Common.{◌≡◌, ℕ, zero, suc, ◌+◌, ◌<◌, ◌≤◌, cond, eqb}
use Rattle.std.proofs.Common.{List, [], ◌∷◌, ◌++◌, length, map, get_or, refl, sym, ap, subst, ◌∙◌}
use Rattle.std.proofs.Common.{arith}
use Rattle.std.specs.Prelude.{Some, slice_get}
use Rattle.std.specs.List.{All, Contains, count_by, flat_map, sum_by}
use Rattle.std.proofs.lemmas.Grind.{flat_map-append}
use Rattle.std.proofs.lemmas.List.{get_or-map, length-map}
use Rattle.std.proofs.lemmas.List.Elements.{All-head, All-tail}
use Rattle.std.proofs.lemmas.List.Sums.{sum_by-append, sum_by-cons}
use Rattle.std.proofs.lemmas.Option.{slice_get_within, get_or_from_slice_get}
use Rattle.migration_model.specs.Live.{LiveRound}
use Rattle.migration_model.specs.Live.{pages_sent, page_copier, sent_by_copier}
use Rattle.stream_lanes.specs.Ends.{LaneId, OutView}
use Rattle.live_tasks.specs.RoundLogs.{frames_sent}
use Rattle.live_engine.specs.Joining.{IsSentBy, lanes_of, HaveCapacity, HaveSentNothing}
use Rattle.live_tasks.proofs.Basics.{in_none}

-- an element is no greater than the sum
pub sum_holds : {X : Type 0} (f : X → ℕ) (xs : List X) (i : ℕ) (x : X) → i < length xs → get_or xs i x ≡ x
    → f x ≤ sum_by f xs
sum_holds f [] i x low there = absurd (omega (arith, low))
sum_holds f (y ∷ ys) zero x low there = let same : f y ≡ f x = ap f there in omega (arith, same, sum_by-cons f y ys)
sum_holds f (y ∷ ys) (suc i) x low there = let rest = sum_holds f ys i x (omega (arith, low)) there in omega
    (arith, rest, sum_by-cons f y ys)

-- the capacity of one of the lanes
pub capacity_at : (lane : ℕ) (rows : List (List OutView)) (copier : ℕ) (outs : List OutView) (i : ℕ) (out : OutView)
    → HaveCapacity lane (lanes_of rows)
    → slice_get rows copier ≡ Some outs → i < length outs → get_or outs i out ≡ out → out.lane.capacity ≡ lane
capacity_at lane rows copier outs i out capacity there low at =
    let ids : List LaneId = map (λ (o : OutView). o.lane) outs in
    let within = slice_get_within rows copier outs there in
    let row : get_or (lanes_of rows) copier ids ≡ ids = get_or-map
    (λ (row : List OutView). map (λ (o : OutView). o.lane) row) rows copier outs ids within
    ∙ ap (λ (row : List OutView). map (λ (o : OutView). o.lane) row)
    (get_or_from_slice_get rows copier outs outs there) in
    let count : length (lanes_of rows) ≡ length rows = length-map rows
    (λ (row : List OutView). map (λ (o : OutView). o.lane) row) in
    let own : All (λ (id : LaneId). id.capacity ≡ lane) ids = subst (All (λ (id : LaneId). id.capacity ≡ lane)) row
    (capacity copier ids (omega (arith, within, count))) in
    let one : get_or ids i out.lane ≡ out.lane = get_or-map (λ (o : OutView). o.lane) outs i out out.lane low
    ∙ ap (λ (o : OutView). o.lane) at in
    sym (ap (λ (id : LaneId). id.capacity) one) ∙ own i out.lane
    (omega (arith, low, length-map outs (λ (o : OutView). o.lane)))

-- what a copier sent in rounds, with one more round
pub sent_more : (copiers : ℕ) (rounds : List LiveRound) (round : LiveRound) (copier : ℕ)
    → sent_by_copier copiers (rounds ++ round ∷ []) copier
    ≡ sent_by_copier copiers rounds copier + sent_by_copier copiers (round ∷ []) copier
sent_more copiers rounds round copier =
    ap (count_by (λ (page : ℕ). eqb (page_copier copiers page) copier)) (flat_map-append pages_sent rounds (round ∷ []))
    ∙ sum_by-append (λ (page : ℕ). cond (eqb (page_copier copiers page) copier) 1 0) (flat_map pages_sent rounds)
    (flat_map pages_sent (round ∷ []))

-- lanes on which nothing was sent
pub no_frames : (outs : List OutView) → All (λ (out : OutView). out.sent ≡ []) outs → frames_sent outs ≡ 0
no_frames [] none = refl
no_frames (out ∷ outs) none =
    let here : length out.sent ≡ 0 = ap length (All-head (λ (o : OutView). o.sent ≡ []) out outs none) in
    omega (
      arith,
      here,
      sum_by-cons (λ (o : OutView). length o.sent) out outs,
      no_frames outs
          (All-tail (λ (o : OutView). o.sent ≡ []) out outs none),
    )

pub nothing_sent : (rows : List (List OutView)) (text : List ℕ) → HaveSentNothing rows → IsSentBy rows text → ⊥
nothing_sent rows text none (c, outs, low, at, (s, out, inside, there, sent)) =
    let row : All (λ (o : OutView). o.sent ≡ []) outs = subst
    (All (λ (o : OutView). o.sent ≡ [])) at (none c outs low) in
    let empty : out.sent ≡ [] = ap (λ (o : OutView). o.sent) (sym there) ∙ row s out inside in
    in_none text (subst (λ (texts : List (List ℕ)). Contains texts text) empty sent)
