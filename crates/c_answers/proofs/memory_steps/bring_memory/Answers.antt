use Rattle.std.proofs.Common.{◌<◌, ◌⊎◌, ◌≤◌, inl, inr, length, arith}
use Rattle.std.proofs.lemmas.Bool.{cases_lt}
use Rattle.guest_log.specs.Writes.{shown}
use Rattle.image_build.proofs.Replays.{write_fits, write_there}
use Rattle.c_answers.proofs.MemorySteps.{Steps-end, Steps-next, Steps-start, is_step, whole_after}
use Rattle.c_answers.proofs.memory_steps.bring_memory.Goals as goal

pub write_over-requires : goal.write_over-requires
write_over-requires c =
    let trace = c.args.trace.now in
    let shape = c.shape-shape in
    let seen = shown c.write.result in
    let index = c.loop-index.index in
    let low : index < length trace.writes =
    omega (arith, c.loop-index-test.true, c.min-end.ensures, shape.ensures.writes) in
    let fits = write_there trace index seen shape.ensures.is_trace low c.write.ensures in
    let len = rw (shape.ensures.shift, shape.ensures.pages) at c.loop-index.invariant.len in
    rw shape.ensures.shift
    (write_fits trace.version trace.shift trace.pages c.loop-index.memory seen len fits)

pub loop-index-init : goal.loop-index-init
loop-index-init c =
    let shape = c.shape-shape in
    rw (shape.ensures.shift, shape.ensures.pages)
    (Steps-start c.args.trace.now c.args.from c.args.to c.args.memory.now c.requires.len)

pub loop-index-preserved : goal.loop-index-preserved
loop-index-preserved c =
    let trace = c.args.trace.now in
    let shape = c.shape-shape in
    let seen = shown c.write.result in
    let index = c.loop-index.index in
    let low : index < length trace.writes =
    omega (arith, c.loop-index-test.true, c.min-end.ensures, shape.ensures.writes) in
    let early : index < c.args.to = omega (arith, c.loop-index-test.true, c.min-end.ensures) in
    let before = rw (shape.ensures.shift, shape.ensures.pages) at c.loop-index.invariant in
    let puts = rw shape.ensures.shift at c.write_over.ensures in
    rw (shape.ensures.shift, shape.ensures.pages)
    (Steps-next trace c.args.to index c.loop-index.memory c.write_over.new.memory seen
    (whole_after trace c.args.from c.args.to c.args.memory.now) shape.ensures.is_trace early low c.write.ensures before
    puts)

pub returns : goal.returns
returns c =
    let trace = c.args.trace.now in
    let shape = c.shape-shape in
    let at = c.loop-index in
    let before = rw (shape.ensures.shift, shape.ensures.pages) at at.invariant in
    let past : (c.args.to ≤ at.index) ⊎ (length trace.writes ≤ at.index) =
    elim (cases_lt at.index c.args.to) [
      | inl early ↦ inr (omega (arith, early, c.loop-index-test.false, c.min-end.ensures, shape.ensures.writes))
      | inr late ↦ inl late
    ] in
    is_step trace c.args.from c.args.to c.args.memory.now at.memory shape.ensures.is_trace c.requires.order
    c.requires.len
    (Steps-end trace c.args.to at.index at.memory (whole_after trace c.args.from c.args.to c.args.memory.now) past
    before)
