use Rattle.std.proofs.Common.{◌≡◌, List, length, map, sym, ap, subst, ◌∙◌}
use Rattle.std.specs.List.{All}
use Rattle.std.proofs.lemmas.List.{length-map}
use Rattle.migration_model.specs.Frames.{GuestShape, shape_with}
use Rattle.migration_model.specs.Final.{shape_of_trace}
use Rattle.page_message.specs.Shapes.{shape_of}
use Rattle.stream_lanes.specs.Ends.{LaneId, OutView}
use Rattle.stream_lanes.specs.Grids.{IsGrid}
use Rattle.stream_receivers.specs.Receivers.{ReceiverView}
use Rattle.live_tasks.specs.CopierStates.{CopierStateView}
use Rattle.live_engine.specs.Joining.{HaveCapacity, HaveSentNothing, lanes_of}
use Rattle.live_engine.specs.Lists.{rows_of}
use Rattle.live_engine.specs.Receiving.{AreCrossed, lanes_in}
use Rattle.live_engine.proofs.Crossed.{capacities, crossed, nothing_sent, nothing_taken}
use Rattle.live_engine.proofs.opening.open_lanes.Goals as goal

pub new_receivers-requires : goal.new_receivers-requires
new_receivers-requires g c =
    nothing_taken c.args.team.copiers c.args.team.streams c.args.team.lane c.in_ok-outs.field-0.outs.items
    c.in_ok-outs.field-0.ins.items c.in_ok-outs.ensures

pub returns-clause-opened : goal.returns-clause-opened
returns-clause-opened g c =
    let trace = g.W.WriteLog.trace c.args.trace.now in
    let team = c.args.team in
    let outs = c.in_ok-outs.field-0.outs.items in
    let ins = c.in_ok-outs.field-0.ins.items in
    let grid : IsGrid team.copiers team.streams team.lane outs ins = c.in_ok-outs.ensures in
    let states = c.in_ok-states.states.items in
    let receivers = c.in_ok-receivers.receivers.items in
    let rows : rows_of states ≡ map (λ r. r.items) outs = c.in_ok-states.ensures.rows in
    let shape : shape_of c.shape-shape.result ≡ shape_of_trace trace = λ i. shape_with (c.shape-shape.ensures.shift i)
    (c.shape-shape.ensures.pages i) (c.shape-shape.ensures.writes i) in
    record {
      states_are = record {
        count = sym (length-map states (λ (d : CopierStateView). d.outs)) ∙ ap length rows
            ∙ length-map outs (λ r. r.items) ∙ grid.workers_are;
        each = c.in_ok-states.ensures.each trace team.streams grid.out_rows;
        new = subst HaveSentNothing (sym rows) (nothing_sent team.copiers team.streams team.lane outs ins grid);
      };
      crossed = subst (λ (sends : List (List OutView)). AreCrossed team.copiers team.streams (lanes_of sends)
          (map lanes_in receivers)) (sym rows)
          (subst (λ (takes : List (List LaneId)). AreCrossed team.copiers team.streams
          (lanes_of (map (λ r. r.items) outs)) takes) (sym c.in_ok-receivers.ensures.lanes)
          (crossed team.copiers team.streams team.lane outs ins grid));
      capacity = subst (λ (sends : List (List OutView)). HaveCapacity team.lane (lanes_of sends)) (sym rows)
          (capacities team.copiers team.streams team.lane outs ins grid);
      is_trace = c.shape-shape.ensures.is_trace;
      shapes = subst (λ (sh : GuestShape). All (λ (r : ReceiverView). r.part.shape ≡ sh) receivers) shape
          c.in_ok-receivers.ensures.shapes;
    }
