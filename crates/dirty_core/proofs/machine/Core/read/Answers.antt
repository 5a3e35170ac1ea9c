use Rattle.std.proofs.Common.{arith, ap, length, sym, ◌∙◌}
use Rattle.std.proofs.lemmas.List.{get_or_default}
use Rattle.page_bitmap.proofs.Bits.{whole_again}
use Rattle.dirty_core.specs.Start.{CopierOwnsPage}
use Rattle.dirty_core.specs.Kept.{kept_with, kept_sizes}
use Rattle.dirty_core.proofs.Moves.{read_place}
use Rattle.dirty_core.proofs.machine.Core.read.Goals as goal

pub returns : goal.returns
returns c =
    let inside = c.self.inside in
    let owns : CopierOwnsPage (kept_sizes (kept_with inside.places.items inside.dirty.items inside.held.items
    inside.pending.items inside.copiers)) c.args.copier c.args.page =
    rw (← c.self.view_is) at (c.copier_owns_page.ensures.0 c.if-not-copier_owns_page.false) in
    let held = whole_again inside.held.len c.remove_page.new.words inside.held.items
    (c.remove_page.ensures.len ∙ ap length c.deref_mut.ensures.value)
    (grind (arith, c.remove_page.ensures.len ∙ ap length c.deref_mut.ensures.value)) in
    rw (← c.self.view_is, held)
    (read_place (kept_with inside.places.items inside.dirty.items inside.held.items inside.pending.items inside.copiers)
    c.args.copier c.args.page c.index.result.now c.remove_page.new.words owns
    (rw c.deref.ensures.value at (sym c.has_page.ensures ∙ c.if-not-has_page.false))
    (c.index.ensures ∙ get_or_default inside.places.items c.args.page c.index.result.now 0 owns.page_real)
    (rw c.deref_mut.ensures.value at c.remove_page.ensures.pages))
