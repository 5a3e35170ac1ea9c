use Rattle.working_sets.proofs.Lent.{LentPasses}
use Rattle.working_sets.proofs.lending.window_rows.Given as goal

abbrev pub invariant-loop-index : goal.invariant-loop-index
invariant-loop-index g l = LentPasses (g.T.Timeline.pages l.timeline) (g.T.Timeline.touches l.timeline) l.settings
    l.index l.window l.at l.count l.marks l.fn.rows l.rows
