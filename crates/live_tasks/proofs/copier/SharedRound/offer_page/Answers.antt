use Rattle.std.proofs.Common.{arith}
use Rattle.std.proofs.lemmas.Grind.{common_steps}
use Rattle.live_tasks.proofs.Copying.{offers_sent}
use Rattle.live_tasks.proofs.copier.SharedRound.offer_page.Goals as goal

pub returns-clause-offered : goal.returns-clause-offered
returns-clause-offered g c =
    offers_sent (g.W.WriteLog.trace c.args.self.now.trace.now) c.args.page c.args.copier.now.seat.facts _
    c.args.copier.now.state c.next_lane.new.self _
    c.next_lane.ensures.log c.next_lane.ensures.sent (grind (arith, common_steps))

pub returns-clause-ready : goal.returns-clause-ready
returns-clause-ready g c = grind (arith, common_steps)
