use Rattle.browser_planner.proofs.Puts.{ArePut}
use Rattle.browser_planner.proofs.touches.put_touches.Given as goal

abbrev pub invariant-loop-write : goal.invariant-loop-write
invariant-loop-write l = ArePut l.fn.trace.writes l.write-iterator l.count l.fn.room l.room
