use Rattle.stream_check.proofs.Streamed.{HasTaken}
use Rattle.stream_check.proofs.streams.check_streams.Given as goal

abbrev pub invariant-loop-stream : goal.invariant-loop-stream
invariant-loop-stream g l =
    HasTaken (g.W.WriteLog.trace l.trace) l.stop l.bytes l.sizes l.stream l.rest l.checker
