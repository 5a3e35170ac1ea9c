use Rattle.working_sets.proofs.Carried.{cut_order}
use Rattle.working_sets.proofs.pieces.piece_of.Goals as goal

pub count_piece-requires-clause-order : goal.count_piece-requires-clause-order
count_piece-requires-clause-order g c = rw (c.cut-from.ensures, c.cut-to.ensures) (cut_order _ _ _)

pub returns : goal.returns
returns g c = record {
  piece = rw (c.cut-from.ensures, c.cut-to.ensures) at c.count_piece.ensures.piece;
  refusal = c.count_piece.ensures.refusal;
}
