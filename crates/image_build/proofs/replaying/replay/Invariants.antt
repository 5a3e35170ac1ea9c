use Rattle.std.proofs.Common.{drop}
use Rattle.migration_model.specs.Memory.{image_of}
use Rattle.image_build.proofs.Replays.{Becomes}
use Rattle.image_build.proofs.replaying.replay.Given as goal

abbrev pub invariant-loop-write : goal.invariant-loop-write
invariant-loop-write l = Becomes l.shape.shift l.shape.pages l.memory.items (drop l.write-index l.write-items)
    (image_of l.trace)
