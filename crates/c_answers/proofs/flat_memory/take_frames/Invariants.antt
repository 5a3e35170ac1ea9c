use Rattle.std.proofs.Common.{◌≡◌, ◌≤◌, ◌+◌, length}
use Rattle.page_message.specs.Shapes.{shape_of}
use Rattle.c_answers.specs.FlatMemory.{IsFlat, TakesFlat}
use Rattle.c_answers.proofs.flat_memory.take_frames.Given as goal

abbrev pub invariant-loop-rest : goal.invariant-loop-rest
invariant-loop-rest l = record {
  takes : TakesFlat (shape_of l.shape) l.fn.memory l.memory l.fn.states l.states l.bytes l.taken l.rest;
  flat : IsFlat (shape_of l.shape) l.memory l.states;
  frames : l.taken.frames ≤ l.taken.bytes;
  bytes : l.taken.bytes + length l.rest ≡ length l.bytes;
}

abbrev pub decreases-loop-rest : goal.decreases-loop-rest
decreases-loop-rest l = length l.rest
