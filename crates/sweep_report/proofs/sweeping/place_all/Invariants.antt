use Rattle.std.specs.List.{All}
use Rattle.sweep_report.specs.Sweeping.{AreTaken, IsWork}
use Rattle.sweep_report.proofs.sweeping.place_all.Given as goal

abbrev pub invariant-loop-some : goal.invariant-loop-some
invariant-loop-some g l = record {
  left : All (IsWork (g.T.Timeline.pages l._timeline) (g.T.Timeline.touches l._timeline) l._cases)
      l.some-iterator.rest.items;
  taken : AreTaken (g.T.Timeline.pages l._timeline) (g.T.Timeline.touches l._timeline) l._cases l.taken.items;
}
