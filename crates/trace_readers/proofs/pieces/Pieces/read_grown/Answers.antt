use Rattle.std.proofs.Common.{ap, drop, arith, ◌∙◌}
use Rattle.trace_readers.specs.Pieces.{PiecesState}
use Rattle.trace_readers.proofs.OneMore.{read_behind_is}
use Rattle.trace_readers.proofs.pieces.Pieces.read_grown.Goals as goal

pub returns-in-Some-clause-read : goal.returns-in-Some-clause-read
returns-in-Some-clause-read g c =
    let inside = c.self.inside in
    let grown = c.in_ok-grow.ensures in
    let read = c.in-Some.ensures in
    let rest = ap (λ (s : PiecesState). s.rest) c.self.view_is in
    let count = ap (λ (s : PiecesState). s.count) c.self.view_is in
    read_behind_is _ _ inside.start inside.filled c.in-Some.count inside.count c.read_behind.new.bytes.items
    c.args.self.now read.fits read.bytes c.self.invariant.0
    (omega (arith, read.len, grown.some)) (omega (arith, read.len, grown.few))
    (ap (drop inside.start) (read.kept ∙ grown.kept) ∙ rest) count
