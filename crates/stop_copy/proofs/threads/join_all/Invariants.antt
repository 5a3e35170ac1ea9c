use Rattle.stop_copy.proofs.threads.join_all.Given as goal

abbrev pub invariant-loop-handle : goal.invariant-loop-handle
invariant-loop-handle g l = (goal.iterator-loop-handle g).can_next l.handle-iterator
    × (goal.iterator-loop-handle g).is_finite l.handle-iterator
