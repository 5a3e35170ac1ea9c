use Rattle.migration_model.specs.Memory.{image_before}
use Rattle.image_build.proofs.Replays.{Becomes, left_before}
use Rattle.c_answers.proofs.open_answers.open_replay_before.Given as goal

abbrev pub invariant-loop-index : goal.invariant-loop-index
invariant-loop-index l =
    Becomes l.shape.shift l.shape.pages l.memory (left_before l.trace l.tick l.index) (image_before l.trace l.tick)
