use Rattle.migration_model.specs.Memory.{image_before}
use Rattle.image_build.proofs.Replays.{Becomes, left_before}
use Rattle.image_build.proofs.replaying.replay_before.Given as goal

abbrev pub invariant-loop-index : goal.invariant-loop-index
invariant-loop-index g l =
    let trace = g.W.WriteLog.trace l.trace in
    Becomes l.shape.shift l.shape.pages l.memory.items (left_before trace l.tick l.index) (image_before trace l.tick)
