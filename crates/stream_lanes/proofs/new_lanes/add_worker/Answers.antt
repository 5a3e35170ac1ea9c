use Rattle.std.proofs.Common.{◌+◌, ◌<◌, length, sym, ap, ◌∙◌, arith}
use Rattle.std.proofs.lemmas.List.{length_push}
use Rattle.stream_lanes.proofs.Grown.{worker-more}
use Rattle.stream_lanes.proofs.new_lanes.add_worker.Goals as goal

pub loop-stream-preserved : goal.loop-stream-preserved
loop-stream-preserved c =
    let before = c.loop-stream.invariant in
    let low : c.loop-stream.stream < length c.loop-stream.ins.items =
    omega (
      arith,
      before.added.count,
      c.loop-stream-test.true,
      c.len-stream-end.ensures,
      c.loop-stream.ins.ok.0,
      c.args.ins.now.ok.0,
    ) in
    record {
      count = ap length c.in_ok-push.ensures.items ∙ length_push c.loop-stream.outs.items c.in_ok-add_lane.field-0
          ∙ ap (λ n. n + 1) before.count;
      added = rw c.in_ok-push.ensures.items (worker-more c.args.capacity c.loop-stream.outs.items
          c.in_ok-add_lane.field-0 c.args.ins.now.items c.loop-stream.ins.items c.loop-stream.stream
          c.index_mut.result.now c.add_lane.new.ends (sym before.count) low c.index_mut.ensures.value
          c.in_ok-add_lane.ensures before.added);
    }
