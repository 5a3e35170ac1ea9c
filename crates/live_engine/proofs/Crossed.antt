-- The lanes of a new grid, seen from both sides.
use Rattle.std.proofs.Common.{◌≡◌, ℕ, List, [], Vec, Global, length, map, sym, ap, subst, ◌∙◌, arith}
use Rattle.std.specs.Prelude.{Some, slice_get}
use Rattle.std.specs.List.{All}
use Rattle.std.proofs.lemmas.List.{length-map}
use Rattle.std.proofs.lemmas.Simd.{map-map}
use Rattle.std.proofs.lemmas.Option.{same_Some, slice_get_within}
use Rattle.migration_model.specs.Frames.{GuestShape}
use Rattle.stream_lanes.specs.Ends.{InView, LaneId, OutView}
use Rattle.stream_lanes.specs.Grids.{IsGrid, IsNewLane}
use Rattle.stream_lanes.proofs.Grown.{within}
use Rattle.stream_receivers.specs.Receivers.{ReceiverView}
use Rattle.stream_receivers.proofs.Ends.{holds_at}
use Rattle.live_engine.specs.Joining.{HaveCapacity, HaveSentNothing, lanes_of}
use Rattle.live_engine.specs.Receiving.{AreCrossed, identity_of, lanes_in}
use Rattle.live_engine.proofs.Each.{all_at, made_of, makes_at, same_image}

abbrev items_of : Vec OutView Global → List OutView
items_of row = row.items

abbrev out_lanes : List OutView → List LaneId
out_lanes outs = map (λ (out : OutView). out.lane) outs

abbrev pub in_lanes : Vec InView Global → List LaneId
in_lanes column = map (λ (end : InView). end.lane) column.items

module _ (workers streams capacity : ℕ) (outs : List (Vec OutView Global)) (ins : List (Vec InView Global))
    (is : IsGrid workers streams capacity outs ins) where
  -- the other end of a lane that is sent on
  other_end : (worker stream : ℕ) (row : Vec OutView Global) (out : OutView) → slice_get outs worker ≡ Some row
      → slice_get row.items stream ≡ Some out
      → (column : Vec InView Global) × (end : InView) × (slice_get ins stream ≡ Some column)
      × (slice_get column.items worker ≡ Some end) × IsNewLane capacity out end
  other_end worker stream row out row_there out_there =
      let size : length row.items ≡ streams = holds_at (λ (r : Vec OutView Global). length r.items ≡ streams) outs
      worker row is.out_rows row_there in
      let low = slice_get_within row.items stream out out_there in
      let column = within ins stream (omega (arith, low, size, is.streams_are)) in
      let long : length column.0.items ≡ workers = holds_at (λ (c : Vec InView Global). length c.items ≡ workers) ins
      stream column.0 is.in_rows column.1 in
      let row_low = slice_get_within outs worker row row_there in
      let end = within column.0.items worker (omega (arith, row_low, long, is.workers_are)) in (
        column.0,
        end.0,
        column.1,
        end.1,
        is.lanes worker stream row out column.0 end.0 row_there out_there column.1
            end.1,
      )

  -- and of one that is taken from
  other_out : (worker stream : ℕ) (column : Vec InView Global) (end : InView) → slice_get ins stream ≡ Some column
      → slice_get column.items worker ≡ Some end
      → (row : Vec OutView Global) × (out : OutView) × (slice_get outs worker ≡ Some row)
      × (slice_get row.items stream ≡ Some out) × IsNewLane capacity out end
  other_out worker stream column end column_there end_there =
      let long : length column.items ≡ workers = holds_at (λ (c : Vec InView Global). length c.items ≡ workers) ins
      stream column is.in_rows column_there in
      let low = slice_get_within column.items worker end end_there in
      let row = within outs worker (omega (arith, low, long, is.workers_are)) in
      let size : length row.0.items ≡ streams = holds_at (λ (r : Vec OutView Global). length r.items ≡ streams) outs
      worker row.0 is.out_rows row.1 in
      let column_low = slice_get_within ins stream column column_there in
      let out = within row.0.items stream (omega (arith, column_low, size, is.streams_are)) in
      (row.0, out.0, row.1, out.1, is.lanes worker stream row.0 out.0 column end row.1 out.1 column_there end_there)

  pub nothing_taken : All (λ (column : Vec InView Global). All (λ (end : InView). end.taken ≡ []) column.items) ins
  nothing_taken = all_at (λ (column : Vec InView Global). All (λ (end : InView). end.taken ≡ []) column.items) ins
      (λ stream column column_there.
      all_at (λ (end : InView). end.taken ≡ []) column.items
      (λ worker end end_there. (other_out worker stream column end column_there end_there).4.taken))

  pub nothing_sent : HaveSentNothing (map items_of outs)
  nothing_sent = all_at (All (λ (out : OutView). out.sent ≡ [])) (map items_of outs) (λ worker row_items there.
      let row = made_of items_of outs worker row_items there in
      subst (All (λ (out : OutView). out.sent ≡ [])) row.2
      (all_at (λ (out : OutView). out.sent ≡ []) row.0.items
      (λ stream out out_there. (other_end worker stream row.0 out row.1 out_there).4.sent)))

  pub capacities : HaveCapacity capacity (lanes_of (map items_of outs))
  capacities = all_at (All (λ (id : LaneId). id.capacity ≡ capacity)) (lanes_of (map items_of outs))
      (λ worker ids there.
      let row_items = made_of out_lanes (map items_of outs) worker ids there in
      let row = made_of items_of outs worker row_items.0 row_items.1 in
      subst (All (λ (id : LaneId). id.capacity ≡ capacity)) (ap out_lanes row.2 ∙ row_items.2)
      (all_at (λ (id : LaneId). id.capacity ≡ capacity) (out_lanes row.0.items) (λ stream id id_there.
      let out = made_of (λ (o : OutView). o.lane) row.0.items stream id id_there in
      ap (λ (i : LaneId). i.capacity) (sym out.2) ∙ (other_end worker stream row.0 out.0 row.1 out.1).4.capacity_is)))

  same_items : (stream : ℕ) (one two : Vec InView Global) → slice_get ins stream ≡ Some one → slice_get ins stream
      ≡ Some two → one.items ≡ two.items
  same_items stream one two a b = ap (λ (c : Vec InView Global). c.items) (same_Some one two (sym a ∙ b))

  pub crossed : AreCrossed workers streams (lanes_of (map items_of outs)) (map in_lanes ins)
  crossed = record {
    copiers_are = length-map (map items_of outs) out_lanes ∙ length-map outs items_of ∙ is.workers_are;
    streams_are = length-map ins in_lanes ∙ is.streams_are;
    rows = all_at (λ (row : List LaneId). length row ≡ streams) (lanes_of (map items_of outs)) (λ worker ids there.
        let row_items = made_of out_lanes (map items_of outs) worker ids there in
        let row = made_of items_of outs worker row_items.0 row_items.1 in
        sym (ap length (ap out_lanes row.2 ∙ row_items.2)) ∙ length-map row.0.items (λ (o : OutView). o.lane)
        ∙ holds_at (λ (r : Vec OutView Global). length r.items ≡ streams) outs worker row.0 is.out_rows row.1);
    columns = all_at (λ (column : List LaneId). length column ≡ workers) (map in_lanes ins) (λ stream ids there.
        let column = made_of in_lanes ins stream ids there in
        sym (ap length column.2) ∙ length-map column.0.items (λ (e : InView). e.lane)
        ∙ holds_at (λ (c : Vec InView Global). length c.items ≡ workers) ins stream column.0 is.in_rows column.1);
    lanes = λ worker stream ids_row ids_column row_there column_there.
        let row_items = made_of out_lanes (map items_of outs) worker ids_row row_there in
        let row = made_of items_of outs worker row_items.0 row_items.1 in
        let row_is : out_lanes row.0.items ≡ ids_row = ap out_lanes row.2 ∙ row_items.2 in
        let column = made_of in_lanes ins stream ids_column column_there in
        let size : length row.0.items ≡ streams = holds_at (λ (r : Vec OutView Global). length r.items ≡ streams) outs
        worker row.0 is.out_rows row.1 in
        let column_low = slice_get_within ins stream column.0 column.1 in
        let out = within row.0.items stream (omega (arith, column_low, size, is.streams_are)) in
        let end = other_end worker stream row.0 out.0 row.1 out.1 in
        let end_there : slice_get column.0.items worker
        ≡ Some end.1 = ap (λ (c : List InView). slice_get c worker)
        (same_items stream column.0 end.0 column.1 end.2) ∙ end.3 in
        ap (λ (l : List LaneId). slice_get l stream) (sym row_is)
        ∙ makes_at (λ (o : OutView). o.lane) row.0.items stream out.0 out.1 ∙ ap Some (sym end.4.lane)
        ∙ sym (makes_at (λ (e : InView). e.lane) column.0.items worker end.1 end_there)
        ∙ ap (λ (l : List LaneId). slice_get l worker) column.2;
  }

-- receivers with the lanes and the guest that others had
pub lanes_kept : (before after : List ReceiverView) → map identity_of after ≡ map identity_of before
    → map lanes_in after ≡ map lanes_in before
lanes_kept before after same =
    sym (map-map (λ (i : List LaneId × GuestShape). i.0) identity_of after)
    ∙ ap (map (λ (i : List LaneId × GuestShape). i.0)) same
    ∙ map-map (λ (i : List LaneId × GuestShape). i.0) identity_of before

pub shapes_kept : (shape : GuestShape) (before after : List ReceiverView) → map identity_of after
    ≡ map identity_of before → All (λ (r : ReceiverView). r.part.shape ≡ shape) before
    → All (λ (r : ReceiverView). r.part.shape ≡ shape) after
shapes_kept shape before after same shapes = all_at (λ (r : ReceiverView). r.part.shape ≡ shape) after
    (λ stream receiver there.
    let was = same_image identity_of identity_of after before stream receiver same there in
    ap (λ (i : List LaneId × GuestShape). i.1) was.2
    ∙ holds_at (λ (r : ReceiverView). r.part.shape ≡ shape) before stream was.0 shapes was.1)
