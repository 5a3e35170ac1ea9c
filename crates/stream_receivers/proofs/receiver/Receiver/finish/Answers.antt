use Rattle.std.proofs.Common.{refl, sym, ap, subst}
use Rattle.migration_model.specs.Frames.{GuestShape}
use Rattle.stream_lanes.specs.Ends.{IsSentOn}
use Rattle.stream_receivers.specs.Receivers.{ReceiverView, AreFrames}
use Rattle.stream_receivers.proofs.receiver.Receiver.finish.Goals as goal

pub returns-in-None-clause-frames : goal.returns-in-None-clause-frames
returns-in-None-clause-frames c =
    subst (λ (s : GuestShape). AreFrames s (IsSentOn c.args.outs.items))
    (ap (λ (r : ReceiverView). r.part.shape) c.self.view_is)
    (c.in-None.ensures.held.frames refl)

pub returns-in-Some-clause-only : goal.returns-in-Some-clause-only
returns-in-Some-clause-only c frames =
    c.in-Some.ensures.held.refused
    (subst (λ (s : GuestShape). AreFrames s (IsSentOn c.args.outs.items))
    (sym (ap (λ (r : ReceiverView). r.part.shape) c.self.view_is)) frames)
