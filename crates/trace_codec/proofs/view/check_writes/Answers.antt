use Rattle.trace_codec.proofs.Steps.{IsRight-from_none, ReadsTo-more}
use Rattle.trace_codec.proofs.view.check_writes.Goals as goal

pub loop-index-preserved : goal.loop-index-preserved
loop-index-preserved c =
    rw (c.in_ok-write.ensures.tick, c.in_ok-write.ensures.rest)
    (ReadsTo-more _ _ _ _ _ _ _ c.loop-index.invariant (IsRight-from_none _ _ _ _ c.loop-index.index _
    c.in_ok-write.ensures.accepted))
