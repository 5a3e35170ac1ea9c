use Rattle.std.proofs.Common.{◌≡◌, Vec, Global, List, [], ◌∷◌, ◌++◌, map, sym, ap, subst, ◌∙◌}
use Rattle.std.specs.List.{All}
use Rattle.std.specs.Vec.Iter.{into_iter_items}
use Rattle.std.proofs.lemmas.List.{map-append}
use Rattle.std.proofs.lemmas.List.Elements.{All-push}
use Rattle.page_message.specs.Shapes.{shape_of}
use Rattle.stream_lanes.specs.Ends.{InView, LaneId}
use Rattle.stream_lanes.proofs.Turned.{next_holds}
use Rattle.stream_receivers.specs.Receivers.{ReceiverView}
use Rattle.live_engine.specs.Receiving.{lanes_in}
use Rattle.live_engine.proofs.FirstSeats.{rest_of}
use Rattle.live_engine.proofs.opening.new_receivers.Goals as goal

abbrev ids : Vec InView Global → List LaneId
ids column = map (λ (end : InView). end.lane) column.items

pub new-requires : goal.new-requires
new-requires c =
    next_holds (λ (column : Vec InView Global). All (λ (end : InView). end.taken ≡ []) column.items)
    c.loop-column.yielded (into_iter_items c.loop-column.column-iterator)
    (into_iter_items c.next.new.self) c.args.columns.items c.in-Some.column c.in-Some.ensures.steps.0
    c.loop-column.invariant.all c.requires

pub loop-column-preserved : goal.loop-column-preserved
loop-column-preserved c =
    let items = c.in_ok-push.ensures.items in
    let receivers = c.loop-column.receivers.items in
    let receiver = c.new.result in
    let front = c.loop-column.yielded in
    let column = c.in-Some.column in
    record {
      can_next = tt;
      is_finite = tt;
      all = rest_of front (into_iter_items c.loop-column.column-iterator) (into_iter_items c.next.new.self)
          c.args.columns.items column c.in-Some.ensures.steps.0 c.loop-column.invariant.all;
      lanes = ap (map lanes_in) items ∙ map-append lanes_in receivers (receiver ∷ [])
          ∙ ap (λ (l : List (List LaneId)). l ++ lanes_in receiver ∷ []) c.loop-column.invariant.lanes
          ∙ ap (λ (r : ReceiverView). map ids front ++ lanes_in r ∷ []) c.new.ensures
          ∙ sym (map-append ids front (column ∷ []));
      shapes = subst (All (λ (r : ReceiverView). r.part.shape ≡ shape_of c.args.shape)) (sym items)
          (All-push (λ (r : ReceiverView). r.part.shape ≡ shape_of c.args.shape) receivers receiver
          c.loop-column.invariant.shapes (ap (λ (r : ReceiverView). r.part.shape) c.new.ensures));
    }
