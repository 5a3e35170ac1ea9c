use Rattle.std.proofs.Common.{◌≤◌, ◌+◌, length}
use Rattle.collector.specs.Streams.{TakesFrames}
use Rattle.collector.proofs.part.Part.take_frames.Given as goal

abbrev pub invariant-loop-rest : goal.invariant-loop-rest
invariant-loop-rest l = record {
  takes : TakesFrames l.fn.self l.self l.bytes l.count l.rest;
  bound : l.count + length l.rest ≤ length l.bytes;
}

abbrev pub decreases-loop-rest : goal.decreases-loop-rest
decreases-loop-rest l = length l.rest
