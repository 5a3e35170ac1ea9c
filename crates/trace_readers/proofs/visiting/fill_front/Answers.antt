use Rattle.std.proofs.Common.{ap, arith}
use Rattle.trace_readers.specs.Pieces.{PiecesState}
use Rattle.trace_readers.proofs.OneMore.{untaken_none}
use Rattle.trace_readers.proofs.visiting.fill_front.Goals as goal

pub loop-pieces-init : goal.loop-pieces-init
loop-pieces-init g c =
    let rest = ap (λ (s : PiecesState). s.rest) c.requires.none in
    let count = ap (λ (s : PiecesState). s.count) c.requires.none in
    record {
      untaken = untaken_none _ c.args.pieces.now rest count;
      short = omega (arith, count);
      unfailed =
          c.requires.unfailed;
    }
