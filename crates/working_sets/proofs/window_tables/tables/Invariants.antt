use Rattle.working_sets.proofs.Open.{TablesTo}
use Rattle.working_sets.proofs.window_tables.tables.Given as goal

abbrev pub invariant-loop-index : goal.invariant-loop-index
invariant-loop-index g l = TablesTo (g.T.Timeline.pages l.timeline) (g.T.Timeline.touches l.timeline) l.settings l.index
    l.asked-inside.window l.at l.rows.items l.marks.items
