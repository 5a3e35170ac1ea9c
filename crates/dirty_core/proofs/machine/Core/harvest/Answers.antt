use Rattle.std.proofs.Common.{arith, ap, length, ◌∙◌}
use Rattle.page_bitmap.proofs.Bits.{whole_again}
use Rattle.dirty_core.specs.Start.{CopierOwns}
use Rattle.dirty_core.specs.Kept.{kept_with, kept_sizes}
use Rattle.dirty_core.proofs.Moves.{harvested}
use Rattle.dirty_core.proofs.machine.Core.harvest.Goals as goal

pub returns : goal.returns
returns c =
    let inside = c.self.inside in
    let owns : CopierOwns (kept_sizes (kept_with inside.places.items inside.dirty.items inside.held.items
    inside.pending.items inside.copiers)) c.args.copier c.args.word =
    rw (← c.self.view_is) at (c.copier_owns.ensures.0 c.if-not-copier_owns.false) in
    let dirty = whole_again inside.dirty.len c.clear_word.new.words inside.dirty.items
    (c.clear_word.ensures.len ∙ ap length c.deref_mut.ensures.value)
    (grind (arith, c.clear_word.ensures.len ∙ ap length c.deref_mut.ensures.value)) in
    let held = whole_again inside.held.len c.add_bits.new.words inside.held.items
    (c.add_bits.ensures.len ∙ ap length c.deref_mut-2.ensures.value)
    (grind (arith, c.add_bits.ensures.len ∙ ap length c.deref_mut-2.ensures.value)) in
    rw (← c.self.view_is, dirty, held)
    (harvested (kept_with inside.places.items inside.dirty.items inside.held.items inside.pending.items inside.copiers)
    c.args.copier c.args.word c.bits_of-bits.result c.clear_word.new.words c.add_bits.new.words owns
    c.bits_of-bits.ensures.fits (rw c.deref.ensures.value at c.bits_of-bits.ensures.pages)
    (rw c.deref_mut.ensures.value at c.clear_word.ensures.pages)
    (rw c.deref_mut-2.ensures.value at c.add_bits.ensures.pages))
