use Rattle.std.proofs.Common.{ap, subst}
use Rattle.migration_model.specs.Frames.{IsGuestShape}
use Rattle.migration_model.specs.Parts.{GuestPart}
use Rattle.page_message.proofs.Steps.{IsGuestShape-from_shape}
use Rattle.collector.proofs.Taken.{takes_only}
use Rattle.collector.proofs.part.Part.accept_bytes.Goals as goal

pub returns-clause-only : goal.returns-clause-only
returns-clause-only c =
    takes_only _ _ c.args.bytes.now c.take_frames.result
    (subst IsGuestShape (ap (λ (p : GuestPart). p.shape) c.self.view_is) (IsGuestShape-from_shape c.self.inside.shape))
    c.take_frames.ensures.taken c.take_frames.ensures.refused
