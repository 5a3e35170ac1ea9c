use Rattle.dirty_core.specs.Start.{CopierOwns}
use Rattle.dirty_core.specs.Kept.{kept_with, kept_sizes}
use Rattle.dirty_core.proofs.Moves.{peeked}
use Rattle.dirty_core.proofs.machine.Core.peek.Goals as goal

pub returns : goal.returns
returns c =
    let inside = c.self.inside in
    let owns : CopierOwns (kept_sizes (kept_with inside.places.items inside.dirty.items inside.held.items
    inside.pending.items inside.copiers)) c.args.copier c.args.word =
    rw (← c.self.view_is) at (c.copier_owns.ensures.0 c.if-not-copier_owns.false) in
    rw (← c.self.view_is)
    (peeked (kept_with inside.places.items inside.dirty.items inside.held.items inside.pending.items inside.copiers)
    c.args.copier c.args.word c.bits_of.result owns
    c.bits_of.ensures.fits (rw c.deref.ensures.value at c.bits_of.ensures.pages))
