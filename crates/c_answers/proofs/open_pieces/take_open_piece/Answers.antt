use Rattle.stream_check.proofs.OneWrong.{none_wrong}
use Rattle.open_checks.specs.Kept.{known_by}
use Rattle.c_answers.proofs.open_pieces.take_open_piece.Goals as goal

pub returns-in_err-take_piece-clause-only : goal.returns-in_err-take_piece-clause-only
returns-in_err-take_piece-clause-only c after all fits takes =
    let trace = c.args.trace.now in
    let known = known_by trace c.args.stop in
    absurd (none_wrong trace (known c.args.last.now c.args.greatest.now) after
    (known c.take_piece.new.last c.take_piece.new.greatest) c.args.piece.now all c.in_err-take_piece.field-0.0
    c.shape-shape.ensures.is_trace c.in_err-take_piece.ensures.whole takes c.in_err-take_piece.ensures.wrong)
