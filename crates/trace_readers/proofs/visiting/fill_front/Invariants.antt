use Rattle.std.proofs.Common.{◌-◌, ◌≡◌, ◌≤◌, false, length}
use Rattle.trace_readers.specs.Pieces.{IsUntaken}
use Rattle.trace_readers.proofs.visiting.fill_front.Given as goal

abbrev pub invariant-loop-pieces : goal.invariant-loop-pieces
invariant-loop-pieces g l = record {
  untaken : IsUntaken (g.S.Source.remaining l.fn.source) (g.S.Source.remaining l.source) l.pieces;
  short : l.pieces.count ≤ 268435456;
  unfailed : g.S.Source.has_failed l.source ≡ false;
}

abbrev pub decreases-loop-pieces : goal.decreases-loop-pieces
decreases-loop-pieces g l = l.count - length l.pieces.rest
