use Rattle.std.proofs.Common.{◌≡◌, ◌++◌, ◌∷◌, [], ℕ, List, length, refl, sym, ap, subst, ◌∙◌}
use Rattle.migration_model.specs.Memory.{GuestMemory}
use Rattle.migration_model.specs.Trace.{IsGuestWrite, write_with}
use Rattle.dealt_memory.specs.Spots.{HoldsWrites}
use Rattle.dealt_memory.specs.declared.piece_writes.Spot.{Spot}
use Rattle.dealt_memory.proofs.Spotted.{holds_pushed, memory_pushed}
use Rattle.dealt_memory.proofs.piece_writes.PieceWrites.push.Goals as goal

pub invariant_of-self-2 : goal.invariant_of-self-2
invariant_of-self-2 c =
    let shape = c.self.inside.shape in
    let spots = c.self.inside.spots.items in
    let more = c.args.write.now.bytes.now in
    let spot : Spot = record { page = c.args.page; offset = c.args.write.now.offset; length = length more } in
    let next = c.push_reserved.ensures.items ∙ ap (λ (l : List Spot). l ++ spot ∷ []) c.in_ok-reserve.ensures.items in
    let fit : IsGuestWrite 2 shape.shift shape.pages (write_with 0 spot.page spot.offset more) = subst
    (λ (m : GuestMemory). IsGuestWrite 2 m.shift m.pages (write_with 0 spot.page spot.offset more))
    (sym c.self.view_is) c.requires.fits in
    subst (λ (ss : List Spot). HoldsWrites shape.shift shape.pages ss c.extend_from_slice.new.self.items) (sym next)
    (subst (HoldsWrites shape.shift shape.pages (spots ++ spot ∷ [])) (sym c.in_ok-extend_from_slice.ensures.items)
    (holds_pushed shape.shift shape.pages spots c.self.inside.bytes.items more spot c.self.invariant refl fit))

pub returns-clause-pushed : goal.returns-clause-pushed
returns-clause-pushed c =
    let shape = c.self.inside.shape in
    let spots = c.self.inside.spots.items in
    let more = c.args.write.now.bytes.now in
    let spot : Spot = record { page = c.args.page; offset = c.args.write.now.offset; length = length more } in
    let next = c.push_reserved.ensures.items ∙ ap (λ (l : List Spot). l ++ spot ∷ []) c.in_ok-reserve.ensures.items in
    memory_pushed shape.shift shape.pages spots c.push_reserved.new.self.items c.self.inside.bytes.items more
    c.extend_from_slice.new.self.items spot c.args.self.now c.self.invariant refl next
    c.in_ok-extend_from_slice.ensures.items c.self.view_is
