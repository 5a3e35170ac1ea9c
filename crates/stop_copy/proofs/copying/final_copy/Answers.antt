use Rattle.std.proofs.Common.{◌≡◌, [], ap, ◌∙◌, arith, length}
use Rattle.std.proofs.lemmas.List.{append-nil}
use Rattle.page_bitmap.specs.Listing.{pages_of}
use Rattle.page_bitmap.specs.Pages.{in_words}
use Rattle.page_bitmap.proofs.Listed.{pages_below}
use Rattle.dirty_words.specs.Seats.{ClosedView}
use Rattle.stream_split.specs.Deals.{Turn}
use Rattle.stop_copy.specs.Copies.{after_dealing, marked_pages}
use Rattle.stop_copy.specs.Copies.{AreCurrentFrames}
use Rattle.stop_copy.proofs.Dealt.{IsFinalCopy-from_dealing}
use Rattle.stop_copy.proofs.Marked.{marked_low}
use Rattle.stop_copy.proofs.copying.final_copy.Goals as goal

pub pages_in-requires : goal.pages_in-requires
pages_in-requires g c =
    let dirty : c.deref.result.now ≡ c.args.closed.now.dirty = c.deref.ensures.value
    ∙ ap (λ (v : ClosedView). v.dirty) c.closed.view_is in
    omega (arith, ap length dirty, c.requires.closed.dirty, c.shape.ensures.is_trace.size.pages_high)

pub frames_by_workers-requires-clause-pages : goal.frames_by_workers-requires-clause-pages
frames_by_workers-requires-clause-pages g c = λ κs le.
    let pages = (g.W.WriteLog.trace c.args.trace.now).pages in
    let dirty : c.deref.result.now ≡ c.args.closed.now.dirty = c.deref.ensures.value
    ∙ ap (λ (v : ClosedView). v.dirty) c.closed.view_is in
    let marked = c.in_ok-marked.ensures ∙ ap pages_of dirty
    ∙ pages_below c.args.closed.now.dirty pages (omega (arith, c.requires.closed.dirty)) c.requires.closed.real in
    rw (c.deref-3.ensures.value, marked) (marked_low (in_words c.args.closed.now.dirty) pages)

pub returns : goal.returns
returns g c =
    let pages = (g.W.WriteLog.trace c.args.trace.now).pages in
    let dirty : c.deref.result.now ≡ c.args.closed.now.dirty = c.deref.ensures.value
    ∙ ap (λ (v : ClosedView). v.dirty) c.closed.view_is in
    let versions : c.deref-2.result.now ≡ c.args.closed.now.versions = c.deref-2.ensures.value
    ∙ ap (λ (v : ClosedView). v.versions) c.closed.view_is in
    let marked : c.deref-3.result.now ≡ marked_pages (in_words c.args.closed.now.dirty) pages =
    c.deref-3.ensures.value ∙ c.in_ok-marked.ensures ∙ ap pages_of dirty
    ∙ pages_below c.args.closed.now.dirty pages (omega (arith, c.requires.closed.dirty)) c.requires.closed.real in
    let frames = c.in_ok-frames.frames.items in
    let are : AreCurrentFrames (g.W.WriteLog.trace c.args.trace.now) c.args.closed.now.versions
    (marked_pages (in_words c.args.closed.now.dirty) pages) frames =
    rw (versions, marked) at c.in_ok-frames.ensures in
    let first : c.new-dealer.result.next ≡ 0 = ap (λ (t : Turn). t.next) c.new-dealer.ensures in
    IsFinalCopy-from_dealing (g.W.WriteLog.trace c.args.trace.now) c.args.closed.now.versions
    (in_words c.args.closed.now.dirty) c.args.parts.items c.deal_out.new.parts.items frames
    (rw c.deref-4.ensures.value at c.know_parts.ensures) c.requires.shapes
    (omega (arith, c.requires.parts, c.requires.some_streams)) c.requires.closed.real are
    (c.in_ok-deal_out.ensures.dealt [] ∙ (λ i. after_dealing (first i) c.args.parts.items (append-nil frames i)))
