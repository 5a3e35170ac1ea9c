use Rattle.std.proofs.Common.{◌<◌, ◌≡◌, length, ap, ◌∙◌, arith}
use Rattle.migration_model.specs.Memory.{image_of}
use Rattle.guest_log.specs.Writes.{shown}
use Rattle.image_build.proofs.Replays.{Becomes-item, item_fits, write_fits}
use Rattle.image_build.proofs.replaying.replay.Goals as goal

pub write_over-requires : goal.write_over-requires
write_over-requires c =
    let shape = c.shape-shape.result in
    let trace = c.args.trace.now in
    let items = c.deref-write-items.result.now in
    let same : items ≡ trace.writes = c.deref-write-items.ensures.value ∙ ap (λ t. t.writes) c.trace.view_is in
    let low : c.loop-write.write-index < length items = omega (arith, c.loop-write-test.true) in
    let fits = item_fits trace shape.shift shape.pages items c.loop-write.write-index c.write-item.result
    (shown c.view.result) c.shape-shape.ensures.is_trace
    c.shape-shape.ensures.shift c.shape-shape.ensures.pages same low c.write-item.is c.view.ensures in
    omega (
      arith,
      write_fits trace.version shape.shift shape.pages c.loop-write.memory.items (shown c.view.result)
          c.loop-write.invariant.len fits,
      c.loop-write.memory.ok.0,
    )

pub loop-write-preserved : goal.loop-write-preserved
loop-write-preserved c =
    let shape = c.shape-shape.result in
    let trace = c.args.trace.now in
    let items = c.deref-write-items.result.now in
    let same : items ≡ trace.writes = c.deref-write-items.ensures.value ∙ ap (λ t. t.writes) c.trace.view_is in
    let low : c.loop-write.write-index < length items = omega (arith, c.loop-write-test.true) in
    let fits = item_fits trace shape.shift shape.pages items c.loop-write.write-index c.write-item.result
    (shown c.view.result) c.shape-shape.ensures.is_trace
    c.shape-shape.ensures.shift c.shape-shape.ensures.pages same low c.write-item.is c.view.ensures in
    Becomes-item trace.version shape.shift shape.pages c.loop-write.memory.items c.write_over.new.memory.items items
    c.loop-write.write-index c.write-item.result
    (shown c.view.result) (image_of trace) c.loop-write.invariant low c.write-item.is c.view.ensures fits
    c.write_over.ensures
