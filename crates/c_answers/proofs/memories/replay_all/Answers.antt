use Rattle.std.proofs.lemmas.List.Elements.{All-head, All-tail}
use Rattle.migration_model.specs.Memory.{image_of}
use Rattle.migration_model.specs.Trace.{IsGuestWrite}
use Rattle.guest_log.specs.Writes.{shown}
use Rattle.image_build.proofs.Replays.{Becomes-next, write_fits}
use Rattle.c_answers.proofs.memories.replay_all.Goals as goal

pub write_over-requires : goal.write_over-requires
write_over-requires c =
    let shape = c.shape-shape.result in
    let version = c.args.trace.now.version in
    write_fits version shape.shift shape.pages _ (shown c.in-Some.write) c.loop-write.invariant.becomes.len
    (All-head (IsGuestWrite version shape.shift shape.pages) (shown c.in-Some.write) c.next.new.self
    (rw c.in-Some.ensures.steps at c.loop-write.invariant.fit))

pub loop-write-preserved : goal.loop-write-preserved
loop-write-preserved c =
    let shape = c.shape-shape.result in
    let version = c.args.trace.now.version in
    let fit = rw c.in-Some.ensures.steps at c.loop-write.invariant.fit in
    let fits = All-head (IsGuestWrite version shape.shift shape.pages) (shown c.in-Some.write) c.next.new.self fit in
    record {
      becomes = Becomes-next version shape.shift shape.pages c.loop-write.memory c.write_over.new.memory
          (shown c.in-Some.write) c.next.new.self (image_of c.args.trace.now)
          (rw c.in-Some.ensures.steps at c.loop-write.invariant.becomes) fits c.write_over.ensures;
      fit = All-tail (IsGuestWrite version shape.shift shape.pages) (shown c.in-Some.write) c.next.new.self fit;
    }
