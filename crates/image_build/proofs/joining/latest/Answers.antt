use Rattle.std.proofs.Common.{◌≡◌, IfSome, List, None, ap, sym, subst, option_map, ◌∙◌}
use Rattle.std.proofs.lemmas.List.{drop_all}
use Rattle.migration_model.specs.Frames.{GuestShape, IsFrame}
use Rattle.migration_model.specs.Parts.{GuestPart, copy_at, copy_in}
use Rattle.page_message.specs.Shapes.{shape_of}
use Rattle.image_build.proofs.Joined.{kept_of, kept-more, copy_at-join_all}
use Rattle.image_build.proofs.joining.latest.Goals as goal

pub loop-part-preserved : goal.loop-part-preserved
loop-part-preserved c =
    let shape = shape_of c.args.shape.now in
    let part = c.part-item.result in
    let frame = c.frame.result in
    let before = c.loop-part.invariant in
    let own : part.shape ≡ shape =
    ap (λ (p : GuestPart). p.shape) c.part-item.is ∙ c.requires c.loop-part.part-index part c.loop-part-test.true in
    let copy : option_map (λ f. copy_in shape f.now) frame ≡ copy_at part c.args.page =
    subst (λ (s : GuestShape). option_map (λ f. copy_in s f.now) frame ≡ copy_at part c.args.page) own
    c.frame.ensures.copy in
    record {
      kept = kept-more c.args.page (option_map (λ f. copy_in shape f.now) c.loop-part.kept)
          (option_map (λ f. copy_in shape f.now) c.later_frame-kept.result)
          c.args.parts.now part c.loop-part.part-index (kept_of c.args.page None c.args.parts.now) before.kept
          c.loop-part-test.true c.part-item.is
          (rw copy at (c.later_frame-kept.ensures.copy shape));
      fits = c.later_frame-kept.ensures.fits shape before.fits
          (subst (λ (s : GuestShape). IfSome frame (λ f. IsFrame s f.now)) own c.frame.ensures.fits);
    }

pub returns-clause-copy : goal.returns-clause-copy
returns-clause-copy c =
    let shape = shape_of c.args.shape.now in
    ap (λ (l : List GuestPart). kept_of c.args.page (option_map (λ f. copy_in shape f.now) c.loop-part.kept) l)
    (sym (drop_all c.loop-part.part-index c.args.parts.now c.loop-part-test.false))
    ∙ c.loop-part.invariant.kept ∙ sym (copy_at-join_all shape c.args.parts.now c.args.page)
