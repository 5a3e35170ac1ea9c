use Rattle.std.proofs.Common.{IfSome, fold, refl, sym, ap, subst, ◌∙◌}
use Rattle.std.specs.List.{All}
use Rattle.std.specs.Vec.Iter.{into_iter_items}
use Rattle.std.proofs.lemmas.List.Elements.{All-same, All-rest}
use Rattle.migration_model.specs.Frames.{GuestShape, IsFrame}
use Rattle.migration_model.specs.Parts.{GuestPart, IsPart}
use Rattle.page_message.specs.Shapes.{shape_of}
use Rattle.page_message.proofs.Steps.{IsGuestShape-from_shape}
use Rattle.collector.specs.Tables.{with_slot}
use Rattle.collector.proofs.Tabled.{IsPart-from_table, fold-slots, slots_fit, shape-with_slot}
use Rattle.collector.proofs.part.merge.Goals as goal

pub loop-slot-init : goal.loop-slot-init
loop-slot-init c =
    let table = c.into_frames-slot-items.result.items in
    let items = c.into_iter-slot-iterator.ensures.into_iter_gives.0 in
    let tabled = c.into_frames-slot-items.ensures.table in
    let is : IsPart c.args.first =
    subst IsPart c.first.view_is (IsPart-from_table (shape_of c.first.inside.shape) c.first.inside.frames.items
    (IsGuestShape-from_shape c.first.inside.shape) c.first.invariant) in
    record {
      shape = refl;
      fit = All-same (λ slot. IfSome slot (IsFrame c.args.first.shape))
          (into_iter_items c.into_iter-slot-iterator.result) table items
          (subst (λ (s : GuestShape). All (λ slot. IfSome slot (IsFrame s)) table) (sym c.requires)
          (slots_fit c.args.second.shape table tabled));
      left = ap (fold with_slot c.args.first) items ∙ fold-slots c.args.first c.args.second table is c.requires tabled
          c.into_frames-slot-items.ensures.copies;
    }

pub loop-slot-preserved : goal.loop-slot-preserved
loop-slot-preserved c =
    let before = c.loop-slot.invariant in
    let items = c.in-Some.ensures.steps.0 in
    let added = c.in_ok-accept_slot.ensures in
    record {
      shape = ap (λ (p : GuestPart). p.shape) added ∙ shape-with_slot c.loop-slot.first c.in-Some.slot ∙ before.shape;
      fit = All-rest (λ slot. IfSome slot (IsFrame c.args.first.shape)) c.in-Some.slot (into_iter_items c.next.new.self)
          (into_iter_items c.loop-slot.slot-iterator) items before.fit;
      left = ap (λ (p : GuestPart). fold with_slot p (into_iter_items c.next.new.self)) added
          ∙ sym (ap (fold with_slot c.loop-slot.first) items) ∙ before.left;
    }
