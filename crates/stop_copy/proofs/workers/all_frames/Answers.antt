use Rattle.std.proofs.Common.{◌≡◌, Ok, ◌∷◌, ap, ◌∙◌, arith}
use Rattle.std.specs.Vec.Iter.{into_iter_items}
use Rattle.stop_copy.proofs.Pieced.{MadeOne, AreJoined-first, AreJoined-next, AreJoined-end}
use Rattle.stop_copy.proofs.workers.all_frames.Goals as goal

pub loop-piece-init : goal.loop-piece-init
loop-piece-init c = λ trace versions pages are.
    rw (c.new-all.ensures.items, c.into_iter-piece-iterator.ensures.into_iter_gives.0)
    (AreJoined-first trace versions pages c.args.made.items are)

pub loop-piece-preserved : goal.loop-piece-preserved
loop-piece-preserved c = λ trace versions pages are.
    let rest = into_iter_items c.next.new.self in
    let items : into_iter_items c.loop-piece.piece-iterator ≡ Ok c.in_ok-frames.frames ∷ rest =
    c.in-Some.ensures.steps.0 ∙ ap (λ (m : MadeOne). m ∷ rest) c.in_ok-frames.was in
    rw c.in_ok-append.ensures.items
    (AreJoined-next trace versions pages c.loop-piece.all.items c.in_ok-frames.frames rest
    (rw items at (c.loop-piece.invariant trace versions pages are)))

pub returns : goal.returns
returns c = λ trace versions pages are.
    AreJoined-end trace versions pages c.loop-piece.all.items (into_iter_items c.loop-piece.piece-iterator)
    (omega (arith, c.in-None.ensures.steps.0, c.loop-piece.piece-iterator.rest.ok.0))
    (c.loop-piece.invariant trace versions pages are)
