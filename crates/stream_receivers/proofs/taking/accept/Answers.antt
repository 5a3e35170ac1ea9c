use Rattle.std.proofs.Common.{sym, ◌∙◌}
use Rattle.stream_receivers.proofs.Holding.{accepts_taken}
use Rattle.stream_receivers.proofs.taking.accept.Goals as goal

pub returns-in-Ok : goal.returns-in-Ok
returns-in-Ok c =
    accepts_taken c.args.part.now c.accept_frame.new.part c.args.refusal.now c.args.buffer.items
    (sym c.is_some.ensures ∙ c.if-is_some.false)
    c.in-Ok.ensures.shape c.in-Ok.ensures.taken
