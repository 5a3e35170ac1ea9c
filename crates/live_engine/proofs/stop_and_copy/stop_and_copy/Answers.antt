use Rattle.std.proofs.Common.{◌≡◌, ◌*◌, ◌^◌, length, subst, sym, ap, ◌∙◌, arith}
use Rattle.page_bitmap.specs.Pages.{in_words}
use Rattle.migration_model.specs.Final.{shape_of_trace}
use Rattle.migration_model.specs.Frames.{GuestShape, shape_with}
use Rattle.migration_model.specs.Images.{AreCurrent, memory_in}
use Rattle.migration_model.specs.Memory.{GuestMemory}
use Rattle.migration_model.specs.Parts.{join_all}
use Rattle.migration_model.specs.Resumed.{AtVersions}
use Rattle.page_message.specs.Shapes.{shape_of}
use Rattle.image_build.specs.Joins.{memory_by}
use Rattle.live_engine.proofs.stop_and_copy.stop_and_copy.Goals as goal

pub returns-clause-at_stop : goal.returns-clause-at_stop
returns-clause-at_stop g c = λ tick at.
    let trace = (g.W.WriteLog.trace c.args.trace.now) in
    let copied = c.in_ok-copied.copied.items in
    let versions = c.args.closed.now.versions in
    let shape : shape_of c.shape.result ≡ shape_of_trace trace = λ i. shape_with (c.shape.ensures.shift i)
    (c.shape.ensures.pages i) (c.shape.ensures.writes i) in
    let current : AreCurrent trace (shape_of_trace trace) versions copied =
    c.final_copy_makes_current.ensures trace (shape_of_trace trace) versions (in_words c.args.closed.now.dirty)
    c.args.parts.items copied c.requires.arrived.not_beyond c.requires.arrived.current c.in_ok-copied.ensures in
    ap memory_by c.in_ok-memory.ensures.made ∙ ap (λ (s : GuestShape). memory_in (join_all s copied)) shape
    ∙ c.current_copies_make_memory.ensures.before trace versions copied tick c.shape.ensures.is_trace current at

pub returns-clause-stopped : goal.returns-clause-stopped
returns-clause-stopped g c =
    let trace = (g.W.WriteLog.trace c.args.trace.now) in
    let copied = c.in_ok-copied.copied.items in
    let versions = c.args.closed.now.versions in
    let shape : shape_of c.shape.result ≡ shape_of_trace trace = λ i. shape_with (c.shape.ensures.shift i)
    (c.shape.ensures.pages i) (c.shape.ensures.writes i) in
    let current : AreCurrent trace (shape_of_trace trace) versions copied =
    c.final_copy_makes_current.ensures trace (shape_of_trace trace) versions (in_words c.args.closed.now.dirty)
    c.args.parts.items copied c.requires.arrived.not_beyond c.requires.arrived.current c.in_ok-copied.ensures in
    let image : memory_by c.in_ok-memory.memory ≡ memory_in (join_all (shape_of_trace trace) copied) =
    ap memory_by c.in_ok-memory.ensures.made ∙ ap (λ (s : GuestShape). memory_in (join_all s copied)) shape in
    let size = c.current_copies_make_memory.ensures.size trace (shape_of_trace trace) versions copied current in
    let at : AtVersions trace versions (memory_in (join_all (shape_of_trace trace) copied)) =
    λ page low. c.current_copies_make_memory.ensures.pages trace (shape_of_trace trace) versions copied page current
    (omega (arith, low, size.1)) in
    record {
      is_trace = c.shape.ensures.is_trace;
      is_index = c.requires.index;
      shift = ap (λ (m : GuestMemory). m.shift) image ∙ size.0;
      pages = ap (λ (m : GuestMemory). m.pages) image ∙ size.1;
      len = ap (λ (m : GuestMemory). length m.bytes) image ∙ size.2
          ∙ sym (ap (λ (m : GuestMemory). m.pages * 2 ^ m.shift) image ∙ (λ i. size.1 i * 2 ^ size.0 i));
      count = c.requires.arrived.fits.versions;
      within = λ page low. c.requires.arrived.fits.low page 0 (omega (arith, low, c.requires.arrived.fits.versions));
      at = subst (AtVersions trace versions) (sym image) at;
    }
