use Rattle.dirty_core.proofs.Runs.{Reached}
use Rattle.dirty_core.proofs.running.run.Given as goal

abbrev pub invariant-loop-index : goal.invariant-loop-index
invariant-loop-index l = Reached l.opening l.events l.index l.core
