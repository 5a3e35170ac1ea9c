use Rattle.page_message.proofs.Steps.{IsGuestShape-from_shape}
use Rattle.page_message.proofs.Found.{is_only}
use Rattle.page_message.proofs.decoding.view_frame.Goals as goal

pub returns-clause-only : goal.returns-clause-only
returns-clause-only c =
    is_only _ c.args.bytes.now c.read_view.result (IsGuestShape-from_shape c.args.shape.now) c.read_view.ensures.found
    c.read_view.ensures.within c.read_view.ensures.refused
