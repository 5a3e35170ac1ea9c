use Rattle.std.proofs.Common.{◌<◌, ◌≤◌, ◌≡◌, ◌*◌, ◌^◌, ℕ, List, [], fold, length, ap, subst, ◌∙◌, arith}
use Rattle.std.proofs.lemmas.List.{length-map}
use Rattle.migration_model.specs.Memory.{apply, image_before, memory_with}
use Rattle.migration_model.specs.Touches.{GuestTouch, touch_of}
use Rattle.migration_model.specs.Trace.{GuestWrite}
use Rattle.guest_log.specs.Writes.{shown}
use Rattle.image_build.proofs.Replays.{Becomes, Becomes-before, left_before, none_before, write_fits, write_there}
use Rattle.image_build.proofs.replaying.replay_before.Goals as goal

pub write-requires : goal.write-requires
write-requires g c =
    let same = ap (λ (ts : List GuestTouch). length ts) (g.met.W.WriteLog.same_touches c.args.trace.now) in
    omega (
      arith,
      c.loop-index-test.true,
      c.before-end.ensures.bound,
      same,
      length-map (g.W.WriteLog.trace c.args.trace.now).writes touch_of,
    )

pub write_over-requires : goal.write_over-requires
write_over-requires g c =
    let trace = g.W.WriteLog.trace c.args.trace.now in
    let shape = c.shape-shape in
    let seen = shown c.write.result in
    let index = c.loop-index.index in
    let same = ap (λ (ts : List GuestTouch). length ts) (g.met.W.WriteLog.same_touches c.args.trace.now) in
    let low : index < length trace.writes = omega (
      arith,
      c.loop-index-test.true,
      c.before-end.ensures.bound,
      same,
      length-map trace.writes touch_of,
    ) in
    let fits = write_there trace index seen shape.ensures.is_trace low c.write.ensures in
    let len = rw (shape.ensures.shift, shape.ensures.pages) at c.loop-index.invariant.len in
    rw shape.ensures.shift (omega (
      arith,
      write_fits trace.version trace.shift trace.pages c.loop-index.memory.items
          seen len fits,
      c.loop-index.memory.ok.0,
    ))

pub loop-index-preserved : goal.loop-index-preserved
loop-index-preserved g c =
    let trace = g.W.WriteLog.trace c.args.trace.now in
    let shape = c.shape-shape in
    let seen = shown c.write.result in
    let index = c.loop-index.index in
    let touches = g.met.W.WriteLog.same_touches c.args.trace.now in
    let same = ap (λ (ts : List GuestTouch). length ts) touches in
    let low : index < length trace.writes = omega (
      arith,
      c.loop-index-test.true,
      c.before-end.ensures.bound,
      same,
      length-map trace.writes touch_of,
    ) in
    let point = rw touches at c.before-end.ensures.point in
    let fits = write_there trace index seen shape.ensures.is_trace low c.write.ensures in
    let before = rw (shape.ensures.shift, shape.ensures.pages) at c.loop-index.invariant in
    let puts = rw shape.ensures.shift at c.write_over.ensures in
    rw (shape.ensures.shift, shape.ensures.pages)
    (Becomes-before trace c.args.tick c.before-end.result index trace.shift trace.pages c.loop-index.memory.items
    c.write_over.new.memory.items seen (image_before trace c.args.tick)
    point c.loop-index-test.true low c.write.ensures before fits puts)

pub returns : goal.returns
returns g c =
    let trace = g.W.WriteLog.trace c.args.trace.now in
    let point = rw (g.met.W.WriteLog.same_touches c.args.trace.now) at c.before-end.ensures.point in
    let memory = c.loop-index.memory.items in
    let at_end : c.loop-index.index ≡ c.before-end.result = omega
    (arith, c.loop-index-test.false, c.loop-index.auto.index-end) in
    let whole = (subst (λ (l : List GuestWrite). Becomes c.shape-shape.result.shift c.shape-shape.result.pages memory l
    (image_before trace c.args.tick))
    (ap (left_before trace c.args.tick) at_end ∙ none_before trace c.args.tick c.before-end.result point)
    c.loop-index.invariant).rest in
    c.of.ensures ∙ whole
