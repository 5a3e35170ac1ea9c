use Rattle.std.proofs.Common.{◌≡◌, ◌*◌, ◌^◌, length, sym, ap, ◌∙◌}
use Rattle.migration_model.specs.Final.{shape_of_trace}
use Rattle.migration_model.specs.Frames.{shape_with}
use Rattle.migration_model.specs.Memory.{image_before, memory_with}
use Rattle.migration_model.specs.Warm.{part_of_memory, versions_of}
use Rattle.page_message.specs.Shapes.{shape_of}
use Rattle.live_engine.proofs.Warmed.{size_before, versions_are, versions_low}
use Rattle.live_engine.proofs.warm.part_of_memory.Goals as goal

pub of_image-requires-clause-size : goal.of_image-requires-clause-size
of_image-requires-clause-size g c =
    let shape = c.shape-shape.ensures in
    let size = size_before (g.W.WriteLog.trace c.args.trace.now) c.args.base c.args.memory c.requires.memory in
    let shift = size.0 ∙ sym shape.shift in
    let pages = size.1 ∙ sym shape.pages in
    ap length (c.deref.ensures.value ∙ c.into_bytes-bytes.ensures.bytes) ∙ c.into_bytes-bytes.ensures.is_memory.len
    ∙ (λ i. pages i * 2 ^ shift i)

pub of_image-requires-clause-within : goal.of_image-requires-clause-within
of_image-requires-clause-within g c =
    let trace = g.W.WriteLog.trace c.args.trace.now in
    rw (c.shape-shape.ensures.writes, c.deref-2.ensures.value)
    (versions_low trace c.args.base c.in_ok-stamps.stamps.items c.in_ok-stamps.ensures.count
    c.in_ok-stamps.ensures.each)

pub returns-clause-part : goal.returns-clause-part
returns-clause-part g c =
    let trace = g.W.WriteLog.trace c.args.trace.now in
    let shape = c.shape-shape.ensures in
    let size = size_before trace c.args.base c.args.memory c.requires.memory in
    let shift = shape.shift ∙ sym size.0 in
    let pages = shape.pages ∙ sym size.1 in
    let bytes = c.deref.ensures.value ∙ c.into_bytes-bytes.ensures.bytes in
    let guest : shape_of c.shape-shape.result ≡ shape_of_trace trace = λ i. shape_with (shape.shift i) (shape.pages i)
    (shape.writes i) in
    let memory : memory_with c.shape-shape.result.shift c.shape-shape.result.pages c.deref.result.now
    ≡ image_before trace c.args.base =
    (λ i. memory_with (shift i) (pages i) (bytes i)) ∙ c.requires.memory in
    let stamps : c.deref-2.result.now ≡ versions_of trace c.args.base =
    c.deref-2.ensures.value ∙ versions_are trace c.args.base c.in_ok-stamps.stamps.items c.in_ok-stamps.ensures.count
    c.in_ok-stamps.ensures.each in
    c.in_ok-of_image.ensures ∙ (λ i. part_of_memory (guest i) (memory i) (stamps i))
