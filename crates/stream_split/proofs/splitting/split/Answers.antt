use Rattle.std.proofs.Common.{◌∙◌, ◌+◌, ◌%◌, ◌<◌, ap, sym, arith}
use Rattle.std.proofs.Math.Nat.{mod-add-mod, zero-mod}
use Rattle.stream_split.specs.Deals.{Turn, turn_with}
use Rattle.stream_split.proofs.Streams.{streams_of-nil, length_held, held-more}
use Rattle.stream_split.proofs.splitting.split.Goals as goal

pub loop-frame-init : goal.loop-frame-init
loop-frame-init c = record {
  turn = c.new-dealer.ensures ∙ ap (turn_with c.args.streams)
      (sym (zero-mod c.args.streams));
  held = c.in_ok-outs.ensures ∙ sym (streams_of-nil c.args.streams);
}

pub index_mut-requires : goal.index_mut-requires
index_mut-requires c =
    let streams = ap (λ (t : Turn). t.streams) c.loop-frame.invariant.turn in
    let size = length_held _ c.loop-frame.outs.items _ c.loop-frame.invariant.held in
    omega (arith, streams, size, c.deal-stream.ensures.within, c.loop-frame.outs.ok.0)

pub loop-frame-preserved : goal.loop-frame-preserved
loop-frame-preserved c =
    let streams = c.args.streams in
    let i = c.loop-frame.frame-index in
    let before = c.loop-frame.invariant in
    let some : 0 < streams = omega arith in
    let own = ap (λ (t : Turn). t.next) before.turn in
    record {
      turn = c.deal-stream.ensures.turn ∙ ap (λ (t : Turn). turn_with t.streams ((t.next + 1) % t.streams)) before.turn
          ∙ ap (turn_with streams) (mod-add-mod i streams 1);
      held = held-more streams i c.deal-stream.result c.loop-frame.outs.items c.index_mut.result.now
          c.add_frame.new.stream c.deref-frame-items.result.now c.frame-item.result
          some (omega arith) (c.deal-stream.ensures.next ∙ own) before.held c.frame-item.is c.index_mut.ensures.value
          c.in_ok-add_frame.ensures;
    }
