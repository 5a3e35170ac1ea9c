use Rattle.std.proofs.Common.{◌<◌, length, set, sym, ap, subst, arith}
use Rattle.live_tasks.specs.CopierStates.{RoundStateView}
use Rattle.live_tasks.specs.Copies.{HasSentFrame}
use Rattle.live_tasks.proofs.Posting.{sends_one}
use Rattle.live_tasks.proofs.copier_state.RoundState.send.Goals as goal

pub returns-clause-sent : goal.returns-clause-sent
returns-clause-sent g c =
    let outs = c.self.inside.outs.items in
    let inside : c.args.stream < length outs = omega (
      arith,
      c.requires.there,
      ap (λ (d : RoundStateView). length d.outs) c.self.view_is,
    ) in
    subst (λ (d : RoundStateView). HasSentFrame c.args.frame.items d.outs (set outs c.args.stream c.send.new.self))
    c.self.view_is
    (sends_one outs c.args.stream c.index_mut.result.now c.send.new.self c.args.frame.items inside
    (sym c.index_mut.ensures.value) c.send.ensures.lane c.send.ensures.sent)
