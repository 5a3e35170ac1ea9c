use Rattle.std.proofs.Common.{◌<◌, ◌+◌, ◌*◌, ◌^◌, length, ap, ◌∙◌, arith}
use Rattle.migration_model.specs.Memory.{bytes_put, memory_with}
use Rattle.guest_log.specs.Writes.{shown}
use Rattle.image_build.proofs.Resumed.{applied_more, place_fits}
use Rattle.image_build.proofs.Replays.{write_fits}
use Rattle.migration_model.proofs.Pages.{length-put}
use Rattle.image_build.proofs.resuming.write_all.Goals as goal

pub write_over-requires : goal.write_over-requires
write_over-requires g c =
    let trace = g.W.WriteLog.trace c.args.trace.now in
    let shape = c.shape-shape in
    let low : c.loop-place.place-index < length c.args.places.now = omega (arith, c.loop-place-test.true) in
    let fits = place_fits trace c.args.places.now c.loop-place.place-index (shown c.write-write.result)
    shape.ensures.is_trace c.requires.places low c.write-write.ensures in
    let whole = write_fits trace.version trace.shift trace.pages c.loop-place.memory.items (shown c.write-write.result)
    c.loop-place.invariant.len fits in
    rw shape.ensures.shift (omega (arith, whole, c.loop-place.memory.ok.0))

pub loop-place-preserved : goal.loop-place-preserved
loop-place-preserved g c =
    let trace = g.W.WriteLog.trace c.args.trace.now in
    let shape = c.shape-shape in
    let write = shown c.write-write.result in
    let index = c.loop-place.place-index in
    let memory = c.loop-place.memory.items in
    let low : index < length c.args.places.now = omega (arith, c.loop-place-test.true) in
    let fits = place_fits trace c.args.places.now index write shape.ensures.is_trace c.requires.places low
    c.write-write.ensures in
    let whole = write_fits trace.version trace.shift trace.pages memory write c.loop-place.invariant.len fits in
    let puts = rw shape.ensures.shift at c.write_over.ensures in
    record {
      len = ap length puts ∙ length-put memory (write.page * 2 ^ trace.shift + write.offset)
          (bytes_put trace.shift write) whole ∙ c.loop-place.invariant.len;
      made = ap (memory_with trace.shift trace.pages) puts
          ∙ applied_more trace memory c.args.memory.now.items c.args.places.now index write low c.write-write.ensures
          c.loop-place.invariant.made;
    }
