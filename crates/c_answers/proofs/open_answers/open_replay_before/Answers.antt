use Rattle.std.proofs.Common.{◌<◌, ◌≡◌, List, length, ap, subst, ◌∙◌, arith}
use Rattle.std.proofs.lemmas.List.{length-map}
use Rattle.migration_model.specs.Memory.{GuestMemory, image_before}
use Rattle.migration_model.specs.Touches.{touch_of}
use Rattle.migration_model.specs.Trace.{GuestWrite}
use Rattle.guest_log.specs.Writes.{shown}
use Rattle.image_build.proofs.Replays.{Becomes, Becomes-before, left_before, none_before, write_fits, write_there}
use Rattle.c_answers.proofs.open_answers.open_replay_before.Goals as goal

pub write_over-requires : goal.write_over-requires
write_over-requires c =
    let trace = c.args.trace.now in
    let shape = c.shape-shape in
    let seen = shown c.write.result in
    let index = c.loop-index.index in
    let low : index < length trace.writes = omega (
      arith,
      c.loop-index-test.true,
      c.before-end.ensures.bound,
      length-map trace.writes touch_of,
    ) in
    let fits = write_there trace index seen shape.ensures.is_trace low c.write.ensures in
    let len = rw (shape.ensures.shift, shape.ensures.pages) at c.loop-index.invariant.len in
    rw shape.ensures.shift
    (write_fits trace.version trace.shift trace.pages c.loop-index.memory seen len fits)

pub loop-index-preserved : goal.loop-index-preserved
loop-index-preserved c =
    let trace = c.args.trace.now in
    let shape = c.shape-shape in
    let seen = shown c.write.result in
    let index = c.loop-index.index in
    let low : index < length trace.writes = omega (
      arith,
      c.loop-index-test.true,
      c.before-end.ensures.bound,
      length-map trace.writes touch_of,
    ) in
    let fits = write_there trace index seen shape.ensures.is_trace low c.write.ensures in
    let before = rw (shape.ensures.shift, shape.ensures.pages) at c.loop-index.invariant in
    let puts = rw shape.ensures.shift at c.write_over.ensures in
    rw (shape.ensures.shift, shape.ensures.pages)
    (Becomes-before trace c.args.tick c.before-end.result index trace.shift trace.pages c.loop-index.memory
    c.write_over.new.memory seen (image_before trace c.args.tick)
    c.before-end.ensures.point c.loop-index-test.true low c.write.ensures before fits puts)

pub returns : goal.returns
returns c =
    let trace = c.args.trace.now in
    let memory = c.loop-index.memory in
    let at_end : c.loop-index.index ≡ c.before-end.result = omega
    (arith, c.loop-index-test.false, c.loop-index.auto.index-end) in
    let whole = (subst (λ (l : List GuestWrite). Becomes c.shape-shape.result.shift c.shape-shape.result.pages memory l
    (image_before trace c.args.tick))
    (ap (left_before trace c.args.tick) at_end ∙ none_before trace c.args.tick c.before-end.result
    c.before-end.ensures.point)
    c.loop-index.invariant).rest in
    ap (λ (m : GuestMemory). m.bytes) whole
