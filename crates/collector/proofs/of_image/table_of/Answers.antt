use Rattle.std.proofs.Common.{◌≡◌, ◌^◌, get_or, subst, ◌∙◌}
use Rattle.migration_model.specs.Frames.{IsFrameOf}
use Rattle.page_message.specs.Shapes.{shape_of}
use Rattle.collector.proofs.Imaged.{page_at, page_more, front_page, behind_page}
use Rattle.collector.proofs.of_image.table_of.Goals as goal

pub loop-page-preserved : goal.loop-page-preserved
loop-page-preserved c =
    let shape = shape_of c.args.shape.now in
    let bytes = c.args.bytes.now in
    let stamps = c.args.stamps.now in
    let page = c.loop-page.page in
    let before = c.loop-page.invariant in
    let frame = c.in_ok-frame_at.field-0 in
    let front : c.split_at.result.0.now ≡ page_at shape bytes page =
    rw c.page_size.ensures at c.split_at.ensures.front ∙ front_page shape page bytes c.loop-page.rest.now before.left in
    let own : IsFrameOf shape page (get_or stamps page 0) (page_at shape bytes page) frame =
    subst (λ xs. IsFrameOf shape page (get_or stamps page 0) xs frame) front c.in_ok-frame_at.ensures in
    record {
      made = rw c.in_ok-push.ensures.items (page_more shape bytes stamps page c.loop-page.table.items frame before.made
          own);
      left = rw c.page_size.ensures at c.split_at.ensures.back
          ∙ behind_page (2 ^ shape.shift) page bytes c.loop-page.rest.now before.left;
    }
