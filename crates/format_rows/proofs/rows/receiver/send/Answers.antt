use Rattle.std.proofs.Common.{◌<◌, length, set, ◌∙◌, arith}
use Rattle.std.proofs.lemmas.List.{length-set}
use Rattle.stream_lanes.specs.Ends.{OutView}
use Rattle.stream_receivers.proofs.Ends.{one_end}
use Rattle.format_rows.proofs.rows.receiver.send.Goals as goal

pub returns-then-not-has_room : goal.returns-then-not-has_room
returns-then-not-has_room c =
    let low : c.args.worker < length c.args.outs.now.items =
    omega (arith, c.if-worker-len.false, c.len.ensures, c.args.outs.now.ok.0) in
    one_end (λ (out : OutView). out.lane) c.args.outs.now.items c.args.worker c.index_mut.result.now c.has_room.new.self
    low c.index_mut.ensures.value c.has_room.ensures.lane

pub returns : goal.returns
returns c =
    let low : c.args.worker < length c.args.outs.now.items =
    omega (arith, c.if-worker-len.false, c.len.ensures, c.args.outs.now.ok.0) in
    let size = length-set c.args.outs.now.items c.args.worker c.has_room.new.self in
    one_end (λ (out : OutView). out.lane) (set c.args.outs.now.items c.args.worker c.has_room.new.self) c.args.worker
    c.index_mut-2.result.now c.send.new.self
    (omega (arith, low, size)) c.index_mut-2.ensures.value c.send.ensures.lane
    ∙ one_end (λ (out : OutView). out.lane) c.args.outs.now.items c.args.worker c.index_mut.result.now
    c.has_room.new.self low c.index_mut.ensures.value c.has_room.ensures.lane
