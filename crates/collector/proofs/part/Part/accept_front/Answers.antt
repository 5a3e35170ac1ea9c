use Rattle.std.proofs.Common.{take, ap, subst}
use Rattle.migration_model.specs.Frames.{GuestShape, SpellsFrame}
use Rattle.migration_model.specs.Parts.{GuestPart}
use Rattle.page_message.specs.Shapes.{shape_of}
use Rattle.collector.proofs.Taken.{Takes-one, some_size}
use Rattle.collector.proofs.part.Part.accept_front.Goals as goal

pub returns-in-Ok-clause-taken : goal.returns-in-Ok-clause-taken
returns-in-Ok-clause-taken c =
    let shape = ap (λ (p : GuestPart). p.shape) c.self.view_is in
    Takes-one _ _ c.args.bytes.now c.in_ok-view.size c.in_ok-view.view
    (subst (λ (s : GuestShape). SpellsFrame s (take c.in_ok-view.size c.args.bytes.now) c.in_ok-view.view) shape
    c.in_ok-view.ensures.found) c.in-Ok.ensures.kept

pub returns-in-Ok-clause-some : goal.returns-in-Ok-clause-some
returns-in-Ok-clause-some c =
    some_size (shape_of c.self.inside.shape) c.args.bytes.now c.in_ok-view.size c.in_ok-view.view
    c.in_ok-view.ensures.found
