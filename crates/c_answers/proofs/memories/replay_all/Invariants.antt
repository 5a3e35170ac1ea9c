use Rattle.std.specs.List.{All}
use Rattle.migration_model.specs.Memory.{image_of}
use Rattle.migration_model.specs.Trace.{IsGuestWrite}
use Rattle.image_build.proofs.Replays.{Becomes}
use Rattle.c_answers.proofs.memories.replay_all.Given as goal

abbrev pub invariant-loop-write : goal.invariant-loop-write
invariant-loop-write l = record {
  becomes : Becomes l.shape.shift l.shape.pages l.memory l.write-iterator (image_of l.trace);
  fit : All (IsGuestWrite l.trace.version l.shape.shift l.shape.pages) l.write-iterator;
}
