use Rattle.working_sets.specs.Pieces.{CarriesSo, state_at}
use Rattle.working_sets.proofs.pieces.count_piece.Given as goal

abbrev pub invariant-loop-index : goal.invariant-loop-index
invariant-loop-index g l = CarriesSo
    (state_at l.fn.settings.window (g.T.Timeline.pages l.timeline) (g.T.Timeline.touches l.timeline) l.fn.from)
    (state_at l.fn.settings.window (g.T.Timeline.pages l.timeline) (g.T.Timeline.touches l.timeline) l.index) l.index
    l.rows.items l.at l.marks.items
