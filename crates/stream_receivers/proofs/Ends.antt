-- The two ends of each worker's lane to a stream.
use Rattle.std.proofs.Common.{Vec, Global, ◌≡◌, ℕ, zero, suc, ◌<◌, List, [], ◌∷◌, length, get_or, map, set, Some, refl}
use Rattle.std.proofs.Common.{sym, ap, subst, ◌∙◌, arith}
use Rattle.std.specs.List.{All, slice_get}
use Rattle.std.proofs.lemmas.List.{length-map}
use Rattle.std.proofs.lemmas.Option.{slice_get_within, get_or_from_slice_get, slice_get-get_or, same_Some, none-some}
use Rattle.stream_lanes.specs.Ends.{OutView, InView, LaneId}
use Rattle.stream_lanes.specs.Grids.{IsGrid, AreColumns}
use Rattle.stream_lanes.proofs.Grown.{within}
use Rattle.stream_receivers.specs.Receivers.{AreEnds, AreNewEnds}

pub holds_at : {X : Type 0} (P : X → Type 0) (xs : List X) (k : ℕ) (x : X) → All P xs → slice_get xs k ≡ Some x → P x
holds_at P xs k x all there = subst P (get_or_from_slice_get xs k x x there) (all k x (slice_get_within xs k x there))

-- a stream's column and its row have the same lanes
pub new_ends : (workers streams capacity : ℕ) (rows columns : List (Vec OutView Global))
    (ins : List (Vec InView Global)) (stream : ℕ) (column : Vec OutView Global)
    (row : Vec InView Global) → IsGrid workers streams capacity rows ins → AreColumns streams rows columns
    → slice_get columns stream ≡ Some column
    → slice_get ins stream ≡ Some row → AreNewEnds column.items row.items
new_ends workers streams capacity rows columns ins stream column row grid turned column_is row_is =
    let height : length column.items ≡ length rows = holds_at (λ (c : Vec OutView Global). length c.items ≡ length rows)
    columns stream column turned.sizes column_is in
    let width : length row.items ≡ workers = holds_at (λ (r : Vec InView Global). length r.items ≡ workers) ins stream
    row grid.in_rows row_is in
    record {
      are_ends = record {
        count = height ∙ grid.workers_are ∙ sym width;
        each = λ worker out end out_is end_is.
            let low = slice_get_within column.items worker out out_is in
            let outs = within rows worker (omega (arith, low, height)) in
            (grid.lanes worker stream outs.0 out row end outs.1
            (sym (turned.same worker stream outs.0 column outs.1 column_is) ∙ out_is) row_is end_is).lane;
      };
      nothing = λ worker end low.
          let there = slice_get-get_or row.items worker end low in
          let outs = within rows worker (omega (arith, low, width, grid.workers_are)) in
          let out = within column.items worker (omega (arith, low, width, height, grid.workers_are)) in
          (grid.lanes worker stream outs.0 out.0 row (get_or row.items worker end) outs.1
          (sym (turned.same worker stream outs.0 column outs.1 column_is) ∙ out.1) row_is there).taken;
    }

lane_at : {X : Type 0} (lane : X → LaneId) (olds news : List X) (k : ℕ) (x : X) → map lane news ≡ map lane olds
    → slice_get news k ≡ Some x
    → (y : X) × (slice_get olds k ≡ Some y) × (lane y ≡ lane x)
lane_at lane [] [] k x same there = absurd (none-some x there)
lane_at lane [] (n ∷ ns) k x same there = absurd (cc)
lane_at lane (o ∷ os) [] k x same there = absurd (cc)
lane_at lane (o ∷ os) (n ∷ ns) zero x same there = let e : lane n
    ≡ lane o = cc in (o, refl, sym e ∙ ap lane (same_Some n x there))
lane_at lane (o ∷ os) (n ∷ ns) (suc k) x same there = let rest : map lane ns
    ≡ map lane os = cc in lane_at lane os ns k x rest there

-- ends of the same lanes
pub same_ends : (outs outs_now : List OutView) (ends ends_now : List InView) → AreEnds outs ends
    → map (λ out. out.lane) outs_now ≡ map (λ out. out.lane) outs
    → map (λ end. end.lane) ends_now ≡ map (λ end. end.lane) ends → AreEnds outs_now ends_now
same_ends outs outs_now ends ends_now are same_outs same_ins = record {
  count = sym (length-map outs_now (λ (out : OutView). out.lane)) ∙ ap length same_outs
      ∙ length-map outs (λ (out : OutView). out.lane) ∙ are.count
      ∙ sym (length-map ends (λ (end : InView). end.lane)) ∙ ap length (sym same_ins)
      ∙ length-map ends_now (λ (end : InView). end.lane);
  each = λ worker out end out_is end_is.
      let o = lane_at (λ (out : OutView). out.lane) outs outs_now worker out same_outs out_is in
      let e = lane_at (λ (end : InView). end.lane) ends ends_now worker end same_ins end_is in
      sym e.2 ∙ are.each worker o.0 e.0 o.1 e.1 ∙ o.2;
}

-- one of the ends is another end of its lane
pub one_end : {X : Type 0} (lane : X → LaneId) (ends : List X) (k : ℕ) (before after : X) → k < length ends → before
    ≡ get_or ends k before → lane after ≡ lane before
    → map lane (set ends k after) ≡ map lane ends
one_end lane [] k before after low there same = refl
one_end lane (e ∷ es) zero before after low there same = ap (λ x. x ∷ map lane es) (same ∙ ap lane there)
one_end lane (e ∷ es) (suc k) before after low there same = ap (λ xs. lane e ∷ xs)
    (one_end lane es k before after (omega (arith, low)) there same)
