use Rattle.working_sets.specs.Pieces.{BeginsSo, state_at}
use Rattle.working_sets.proofs.pieces.start_of.Given as goal

abbrev pub invariant-loop-index : goal.invariant-loop-index
invariant-loop-index g l = BeginsSo
    (state_at l.fn.settings.window (g.T.Timeline.pages l.timeline) (g.T.Timeline.touches l.timeline) l.index) l.index
    l.at l.marks.items
