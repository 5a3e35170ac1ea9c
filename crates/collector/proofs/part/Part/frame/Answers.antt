use Rattle.std.proofs.Common.{◌≡◌, Some, None, subst, sym, ◌∙◌}
use Rattle.std.proofs.lemmas.Bool.{ltb-true}
use Rattle.std.proofs.lemmas.List.{get_or_default}
use Rattle.migration_model.specs.Parts.{GuestPart}
use Rattle.page_message.specs.Shapes.{shape_of}
use Rattle.collector.specs.Tables.{frame_at}
use Rattle.collector.proofs.Fated.{frame_at-table}
use Rattle.collector.proofs.part.Part.frame.Goals as goal

pub returns-in-Some-Some-clause-is : goal.returns-in-Some-Some-clause-is
returns-in-Some-Some-clause-is c =
    let frame = c.in-Some-Some.frame in
    sym (subst (λ (part : GuestPart). frame_at part c.args.page ≡ Some frame) c.self.view_is
    (frame_at-table (shape_of c.self.inside.shape) c.self.inside.frames.items c.args.page frame c.self.invariant
    (rw (← c.deref.ensures.value) (get_or_default c.deref.result.now c.args.page None c.in-Some-Some.field-0.now
    (ltb-true _ _ (sym c.in-Some-Some.ensures.lookup.0)) ∙ sym c.in-Some-Some.ensures.lookup.1
    ∙ c.in-Some-Some.field-0-is))))
