use Rattle.std.proofs.Common.{arith, ap, length, ◌∙◌}
use Rattle.std.proofs.lemmas.List.{length-set}
use Rattle.page_bitmap.proofs.Bits.{whole_again}
use Rattle.dirty_core.specs.Kept.{kept_with}
use Rattle.dirty_core.proofs.Moves.{marked, something_read, pending_real}
use Rattle.dirty_core.proofs.machine.Core.mark.Goals as goal

pub add_page-requires : goal.add_page-requires
add_page-requires c =
    let there = something_read c.self.inside.pending.items c.args.guest c.in-Some.page c.index.result.now (omega arith)
    c.index.ensures c.in-Some.is in
    let real = c.self.invariant.pending c.args.guest c.in-Some.page there in
    omega (arith, real)

pub invariant_of-self : goal.invariant_of-self
invariant_of-self c =
    let inside = c.self.inside in
    let same = c.add_page.ensures.len ∙ ap length c.deref_mut.ensures.value in
    record {
      dirty = ap length (whole_again inside.dirty.len c.add_page.new.words inside.dirty.items same
          (grind (arith, same))) ∙ same ∙ c.self.invariant.dirty;
      held = c.self.invariant.held;
      pages = c.self.invariant.pages;
      guests = rw length-set c.self.invariant.guests;
      copiers = c.self.invariant.copiers;
      pending = pending_real inside.pending.items c.args.guest _ (omega arith) c.self.invariant.pending;
    }

pub returns : goal.returns
returns c =
    let inside = c.self.inside in
    let dirty = whole_again inside.dirty.len c.add_page.new.words inside.dirty.items
    (c.add_page.ensures.len ∙ ap length c.deref_mut.ensures.value)
    (grind (arith, c.add_page.ensures.len ∙ ap length c.deref_mut.ensures.value)) in
    rw (← c.self.view_is, dirty)
    (marked (kept_with inside.places.items inside.dirty.items inside.held.items inside.pending.items inside.copiers)
    c.args.guest c.in-Some.page c.add_page.new.words (omega arith)
    (something_read inside.pending.items c.args.guest c.in-Some.page c.index.result.now (omega arith) c.index.ensures
    c.in-Some.is)
    (rw c.deref_mut.ensures.value at c.add_page.ensures.pages))
