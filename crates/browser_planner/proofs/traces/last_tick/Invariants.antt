use Rattle.std.proofs.Common.{◌≡◌}
use Rattle.std.specs.List.{fold}
use Rattle.browser_planner.proofs.traces.last_tick.Given as goal

abbrev pub invariant-loop-write : goal.invariant-loop-write
invariant-loop-write l = fold (λ last write. write.tick) l.last l.write-iterator
    ≡ fold (λ last write. write.tick) 0 l.fn.trace.writes
