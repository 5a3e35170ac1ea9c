use Rattle.std.proofs.Common.{ap, length, take, arith, ◌∙◌}
use Rattle.std.proofs.lemmas.List.{length-drop, length-take}
use Rattle.trace_readers.specs.Pieces.{PiecesState}
use Rattle.trace_readers.proofs.OneMore.{read_behind_is}
use Rattle.trace_readers.proofs.pieces.Pieces.read_more.Goals as goal

pub returns-in-Some-clause-read : goal.returns-in-Some-clause-read
returns-in-Some-clause-read g c =
    let inside = c.self.inside in
    let moved = c.move_to_front-self-inside in
    let read = c.in-Some.ensures in
    let rest = ap (λ (s : PiecesState). s.rest) c.self.view_is in
    let count = ap (λ (s : PiecesState). s.count) c.self.view_is in
    read_behind_is _ _ 0 moved.result c.in-Some.count c.self.inside.count c.read_behind.new.bytes.items c.args.self.now
    read.fits read.bytes (omega arith)
    (omega (
      arith,
      read.len,
      moved.ensures.len,
      moved.ensures.count,
      c.requires.room,
      ap length rest,
      length-drop inside.start (take inside.filled inside.room.items),
      length-take inside.filled inside.room.items,
      c.self.invariant.1,
      inside.room.ok.0,
    )) (omega (arith, read.len, moved.ensures.len)) (read.kept ∙ moved.ensures.kept ∙ rest) count
