use Rattle.std.proofs.Common.{arith, ap, length, ◌∙◌}
use Rattle.page_bitmap.proofs.Bits.{whole_again}
use Rattle.dirty_core.specs.Start.{CopierOwns}
use Rattle.dirty_core.specs.Kept.{kept_with, kept_sizes}
use Rattle.dirty_core.proofs.Moves.{restored}
use Rattle.dirty_core.proofs.machine.Core.restore.Goals as goal

pub returns : goal.returns
returns c =
    let inside = c.self.inside in
    let owns : CopierOwns (kept_sizes (kept_with inside.places.items inside.dirty.items inside.held.items
    inside.pending.items inside.copiers)) c.args.copier c.args.word =
    rw (← c.self.view_is) at (c.copier_owns.ensures.0 c.if-not-copier_owns.false) in
    let held = whole_again inside.held.len c.remove_bits.new.words inside.held.items
    (c.remove_bits.ensures.len ∙ ap length c.deref_mut.ensures.value)
    (grind (arith, c.remove_bits.ensures.len ∙ ap length c.deref_mut.ensures.value)) in
    let dirty = whole_again inside.dirty.len c.add_bits.new.words inside.dirty.items
    (c.add_bits.ensures.len ∙ ap length c.deref_mut-2.ensures.value)
    (grind (arith, c.add_bits.ensures.len ∙ ap length c.deref_mut-2.ensures.value)) in
    rw (← c.self.view_is, held, dirty)
    (restored (kept_with inside.places.items inside.dirty.items inside.held.items inside.pending.items inside.copiers)
    c.args.copier c.args.word c.args.bits c.add_bits.new.words c.remove_bits.new.words owns
    (rw c.deref.ensures.value at (c.has_bits.ensures.0 c.if-not-has_bits.false))
    (rw c.deref_mut.ensures.value at c.remove_bits.ensures.pages)
    (rw c.deref_mut-2.ensures.value at c.add_bits.ensures.pages))
