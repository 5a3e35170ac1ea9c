use Rattle.std.proofs.Common.{sym, ◌∙◌}
use Rattle.std.proofs.lemmas.List.{get_or_default}
use Rattle.dirty_core.specs.Start.{GuestOwns}
use Rattle.dirty_core.specs.Kept.{kept_with, kept_sizes}
use Rattle.dirty_core.proofs.Moves.{stored, nothing_read}
use Rattle.dirty_core.proofs.machine.Core.store.Goals as goal

pub returns : goal.returns
returns c =
    let inside = c.self.inside in
    let owns : GuestOwns (kept_sizes (kept_with inside.places.items inside.dirty.items inside.held.items
    inside.pending.items inside.copiers)) c.args.guest c.args.page =
    rw (← c.self.view_is) at (c.guest_owns.ensures.0 c.if-not-guest_owns.false) in
    rw (← c.self.view_is)
    (stored (kept_with inside.places.items inside.dirty.items inside.held.items inside.pending.items inside.copiers)
    c.args.guest c.args.page c.args.place owns
    (nothing_read _ _ _ c.is_some.result owns.guest_real c.index.ensures c.is_some.ensures c.if-is_some.false)
    (rw (get_or_default inside.places.items c.args.page 0 c.index-2.result.now owns.page_real ∙ sym c.index-2.ensures)
    c.if-place-index.false))
