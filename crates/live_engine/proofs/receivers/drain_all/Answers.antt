use Rattle.std.proofs.Common.{List, length, map, sym, subst, ◌∙◌}
use Rattle.std.proofs.lemmas.List.{length-map}
use Rattle.stream_lanes.specs.Ends.{OutView}
use Rattle.stream_lanes.specs.Grids.{AreColumns}
use Rattle.stream_receivers.specs.Receivers.{AreFrames}
use Rattle.live_engine.specs.Joining.{IsSentBy, lanes_of}
use Rattle.live_engine.specs.Receiving.{AreCrossed, HaveArrived, lanes_in}
use Rattle.live_engine.proofs.Arrived.{arrived, ends_of, row_size}
use Rattle.live_engine.proofs.receivers.drain_all.Goals as goal

pub by_stream-requires : goal.by_stream-requires
by_stream-requires c =
    row_size (length c.args.states.items) c.args.streams c.in_ok-rows.rows.items c.args.receivers.items
    (subst (λ (rows : List (List OutView)). AreCrossed (length c.args.states.items) c.args.streams (lanes_of rows)
    (map lanes_in c.args.receivers.items)) (sym c.in_ok-rows.ensures.rows) c.requires)

pub finish_all-requires-clause-count : goal.finish_all-requires-clause-count
finish_all-requires-clause-count c =
    let are : AreColumns c.args.streams c.in_ok-rows.rows.items c.in_ok-columns.columns.items =
    c.in_ok-columns.ensures in
    are.count ∙ sym c.requires.streams_are ∙ length-map c.args.receivers.items lanes_in

pub finish_all-requires-clause-ends : goal.finish_all-requires-clause-ends
finish_all-requires-clause-ends c =
    ends_of (length c.args.states.items) c.args.streams c.in_ok-rows.rows.items c.in_ok-columns.columns.items
    c.args.receivers.items c.in_ok-columns.ensures
    (subst (λ (rows : List (List OutView)). AreCrossed (length c.args.states.items) c.args.streams (lanes_of rows)
    (map lanes_in c.args.receivers.items)) (sym c.in_ok-rows.ensures.rows) c.requires)

pub returns-clause-arrived : goal.returns-clause-arrived
returns-clause-arrived c = λ shape shapes frames.
    subst (λ (rows : List (List OutView)). HaveArrived shape c.args.streams rows c.in_ok-parts.parts.items)
    c.in_ok-rows.ensures.rows
    (arrived (length c.args.states.items) c.args.streams c.in_ok-rows.rows.items c.in_ok-columns.columns.items
    c.args.receivers.items c.in_ok-columns.ensures
    (subst (λ (rows : List (List OutView)). AreCrossed (length c.args.states.items) c.args.streams (lanes_of rows)
    (map lanes_in c.args.receivers.items)) (sym c.in_ok-rows.ensures.rows) c.requires)
    shape c.in_ok-parts.parts.items shapes
    (subst (λ (rows : List (List OutView)). AreFrames shape (IsSentBy rows)) (sym c.in_ok-rows.ensures.rows) frames)
    c.in_ok-parts.ensures.count c.in_ok-parts.ensures.each)
