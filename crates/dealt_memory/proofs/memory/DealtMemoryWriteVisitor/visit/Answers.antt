use Rattle.std.proofs.Common.{◌≡◌, ◌<◌, ◌*◌, ◌+◌, ◌-◌, ◌^◌, length, sym, ap, subst, ◌∙◌}
use Rattle.guest_log.specs.Writes.{shown}
use Rattle.migration_model.specs.Memory.{GuestMemory}
use Rattle.migration_model.specs.Trace.{IsGuestWrite}
use Rattle.dealt_memory.specs.Pieces.{IsPiece}
use Rattle.dealt_memory.proofs.Joined.{memory_applied, moved_fits, piece_found, piece_pushed, pieces_set}
use Rattle.dealt_memory.proofs.memory.DealtMemoryWriteVisitor.visit.Goals as goal

pub invariant_of-self : goal.invariant_of-self
invariant_of-self c =
    let shape = c.self.inside.shape in
    let pieces = c.self.inside.pieces.items in
    let k = c.place_of-piece.result.0 in
    let q = c.place_of-piece.result.1 in
    let old = c.index_mut.result.now in
    let write = shown c.args.write.now in
    let fit : IsGuestWrite c.requires.0 shape.shift shape.pages write = subst
    (λ (m : GuestMemory). IsGuestWrite c.requires.0 m.shift m.pages write) (sym c.self.view_is) c.requires.1 in
    let there = piece_found shape.shift shape.pages pieces k q write.page c.self.invariant
    c.place_of-piece.ensures.place fit.page in
    let is : IsPiece shape.shift shape.pages k old = subst (IsPiece shape.shift shape.pages k)
    (sym c.index_mut.ensures.value) (c.self.invariant.each k old there) in
    let own = moved_fits c.requires.0 shape.shift shape.pages k q old write is c.place_of-piece.ensures.place
    c.place_of-piece.ensures.low fit in
    pieces_set shape.shift shape.pages pieces k c.push.new.self c.self.invariant there
    (piece_pushed c.push.result shape.shift shape.pages k old c.push.new.self _ is own c.push.ensures.pushed
    c.push.ensures.kept)

pub returns-clause-made : goal.returns-clause-made
returns-clause-made c =
    let shape = c.self.inside.shape in
    let pieces = c.self.inside.pieces.items in
    let k = c.place_of-piece.result.0 in
    let q = c.place_of-piece.result.1 in
    let old = c.index_mut.result.now in
    let write = shown c.args.write.now in
    let fit : IsGuestWrite c.requires.0 shape.shift shape.pages write = subst
    (λ (m : GuestMemory). IsGuestWrite c.requires.0 m.shift m.pages write) (sym c.self.view_is) c.requires.1 in
    let there = piece_found shape.shift shape.pages pieces k q write.page c.self.invariant
    c.place_of-piece.ensures.place fit.page in
    let own = moved_fits c.requires.0 shape.shift shape.pages k q _ write (c.self.invariant.each k old there)
    c.place_of-piece.ensures.place c.place_of-piece.ensures.low fit in
    memory_applied c.push.result shape.shift shape.pages pieces k q old c.push.new.self c.args.self.now write
    shape.shift_high c.self.invariant there c.place_of-piece.ensures.place c.index_mut.ensures.value own c.self.view_is
    c.push.ensures.pushed
