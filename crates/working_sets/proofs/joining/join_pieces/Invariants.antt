use Rattle.std.proofs.Common.{◌≡◌, ◌+◌, length}
use Rattle.working_sets.specs.Pieces.{AreMade, IsJoined, cut_at, state_at}
use Rattle.working_sets.proofs.joining.join_pieces.Given as goal

abbrev pub invariant-loop-piece : goal.invariant-loop-piece
invariant-loop-piece g l = record {
  done : IsJoined (state_at l.settings.window (g.T.Timeline.pages l.timeline) (g.T.Timeline.touches l.timeline)
      (cut_at (g.T.Timeline.touches l.timeline) l.each l.number)) l.joined;
  left : AreMade l.settings.window (g.T.Timeline.pages l.timeline) (g.T.Timeline.touches l.timeline) l.each l.number
      l.piece-iterator.rest.items;
  count : l.number + length l.piece-iterator.rest.items ≡ length l.fn.made.items;
}
