use Rattle.image_build.proofs.Replays.{Becomes}
use Rattle.c_answers.proofs.MemorySteps.{left_to, whole_after}
use Rattle.c_answers.proofs.memory_steps.bring_memory.Given as goal

abbrev pub invariant-loop-index : goal.invariant-loop-index
invariant-loop-index l = Becomes l.shape.shift l.shape.pages l.memory (left_to l.trace l.to l.index)
    (whole_after l.trace l.from l.to l.fn.memory)
