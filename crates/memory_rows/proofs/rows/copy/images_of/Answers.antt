use Rattle.std.proofs.Common.{◌≡◌, subst, sym, ap, ◌∙◌, arith}
use Rattle.page_bitmap.specs.Pages.{in_words}
use Rattle.dirty_words.specs.Seats.{ClosedView}
use Rattle.migration_model.specs.Final.{shape_of_trace}
use Rattle.migration_model.specs.Frames.{GuestShape, shape_with}
use Rattle.migration_model.specs.Images.{AreCurrent, memory_in}
use Rattle.migration_model.specs.Memory.{GuestMemory}
use Rattle.migration_model.specs.Parts.{join_all}
use Rattle.migration_model.specs.Resumed.{AtVersions}
use Rattle.page_message.specs.Shapes.{shape_of}
use Rattle.memory_rows.proofs.rows.copy.images_of.Goals as goal

pub resume-at_end-requires-clause-shift : goal.resume-at_end-requires-clause-shift
resume-at_end-requires-clause-shift g c =
    let trace = c.args.trace.now in
    let copied = c.in_ok-copied.copied.items in
    let versions = c.args.closed.now.versions in
    let shape : shape_of c.shape.result ≡ shape_of_trace trace =
    λ i. shape_with (c.shape.ensures.shift i) (c.shape.ensures.pages i) (c.shape.ensures.writes i) in
    let current : AreCurrent trace (shape_of_trace trace) versions copied =
    c.final_copy_makes_current.ensures trace (shape_of_trace trace) versions (in_words c.args.closed.now.dirty)
    c.args.parts.items copied c.requires.parts c.requires.current c.in_ok-copied.ensures in
    ap (λ (m : GuestMemory). m.shift) (c.in_ok-copy.ensures ∙ c.in_ok-at_stop.ensures.made.is
    ∙ ap (λ (s : GuestShape). memory_in (join_all s copied)) shape)
    ∙ (c.current_copies_make_memory.ensures.size trace (shape_of_trace trace) versions copied current).0

pub resume-at_end-requires-clause-pages : goal.resume-at_end-requires-clause-pages
resume-at_end-requires-clause-pages g c =
    let trace = c.args.trace.now in
    let copied = c.in_ok-copied.copied.items in
    let versions = c.args.closed.now.versions in
    let shape : shape_of c.shape.result ≡ shape_of_trace trace =
    λ i. shape_with (c.shape.ensures.shift i) (c.shape.ensures.pages i) (c.shape.ensures.writes i) in
    let current : AreCurrent trace (shape_of_trace trace) versions copied =
    c.final_copy_makes_current.ensures trace (shape_of_trace trace) versions (in_words c.args.closed.now.dirty)
    c.args.parts.items copied c.requires.parts c.requires.current c.in_ok-copied.ensures in
    ap (λ (m : GuestMemory). m.pages) (c.in_ok-copy.ensures ∙ c.in_ok-at_stop.ensures.made.is
    ∙ ap (λ (s : GuestShape). memory_in (join_all s copied)) shape)
    ∙ (c.current_copies_make_memory.ensures.size trace (shape_of_trace trace) versions copied current).1

pub returns-clause-at_stop : goal.returns-clause-at_stop
returns-clause-at_stop g c = λ tick at.
    let trace = c.args.trace.now in
    let copied = c.in_ok-copied.copied.items in
    let versions = c.args.closed.now.versions in
    let shape : shape_of c.shape.result ≡ shape_of_trace trace =
    λ i. shape_with (c.shape.ensures.shift i) (c.shape.ensures.pages i) (c.shape.ensures.writes i) in
    let current : AreCurrent trace (shape_of_trace trace) versions copied =
    c.final_copy_makes_current.ensures trace (shape_of_trace trace) versions (in_words c.args.closed.now.dirty)
    c.args.parts.items copied c.requires.parts c.requires.current c.in_ok-copied.ensures in
    c.in_ok-at_stop.ensures.made.is ∙ ap (λ (s : GuestShape). memory_in (join_all s copied)) shape
    ∙ c.current_copies_make_memory.ensures.before trace versions copied tick c.shape.ensures.is_trace current at

pub returns-clause-at_end : goal.returns-clause-at_end
returns-clause-at_end g c =
    let trace = c.args.trace.now in
    let copied = c.in_ok-copied.copied.items in
    let versions = c.args.closed.now.versions in
    let kept : c.deref.result.now ≡ versions = c.deref.ensures.value
    ∙ ap (λ (v : ClosedView). v.versions) c.closed.view_is in
    let shape : shape_of c.shape.result ≡ shape_of_trace trace =
    λ i. shape_with (c.shape.ensures.shift i) (c.shape.ensures.pages i) (c.shape.ensures.writes i) in
    let current : AreCurrent trace (shape_of_trace trace) versions copied =
    c.final_copy_makes_current.ensures trace (shape_of_trace trace) versions (in_words c.args.closed.now.dirty)
    c.args.parts.items copied c.requires.parts c.requires.current c.in_ok-copied.ensures in
    let image : c.in_ok-copy.field-0 ≡ memory_in (join_all (shape_of_trace trace) copied) =
    c.in_ok-copy.ensures ∙ c.in_ok-at_stop.ensures.made.is ∙ ap (λ (s : GuestShape). memory_in (join_all s copied))
    shape in
    let size = c.current_copies_make_memory.ensures.size trace (shape_of_trace trace) versions copied current in
    let at : AtVersions trace versions (memory_in (join_all (shape_of_trace trace) copied)) =
    λ page low. c.current_copies_make_memory.ensures.pages trace (shape_of_trace trace) versions copied page current
    (omega (arith, low, size.1)) in
    (rw kept at c.resume-at_end.ensures.whole) (subst (AtVersions trace versions) (sym image) at)
