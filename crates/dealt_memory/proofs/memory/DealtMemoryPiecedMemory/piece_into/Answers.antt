use Rattle.std.proofs.Common.{◌≡◌, ◌<◌, ◌≤◌, ◌^◌, length, sym, ap, ◌∙◌, arith}
use Rattle.migration_model.specs.Memory.{GuestMemory}
use Rattle.byte_sinks.specs.Pieces.{piece_of}
use Rattle.dealt_memory.proofs.Joined.{no_piece, piece_short, piece_there}
use Rattle.dealt_memory.proofs.memory.DealtMemoryPiecedMemory.piece_into.Goals as goal

pub make-requires : goal.make-requires
make-requires c =
    let shape = c.self.inside.shape in
    let piece = c.index.result.now in
    let there : c.args.number < length c.self.inside.pieces.items = omega
    (arith, c.if-number-len.true, c.len.ensures, c.self.inside.pieces.ok.0) in
    let short = piece_short shape.shift shape.pages c.args.number _ shape.shift_high
    (c.self.invariant.each c.args.number piece there) in
    omega (
      arith,
      short,
      ap (λ (m : GuestMemory). length m.bytes) c.index.ensures,
      c.clear.ensures.capacity,
      c.requires.capacity,
    )

pub returns-then-number-len-clause-made : goal.returns-then-number-len-clause-made
returns-then-number-len-clause-made c =
    let shape = c.self.inside.shape in
    let there : c.args.number < length c.self.inside.pieces.items = omega
    (arith, c.if-number-len.true, c.len.ensures, c.self.inside.pieces.ok.0) in
    c.make.ensures.made ∙ ap (λ (m : GuestMemory). m.bytes) c.index.ensures
    ∙ piece_there shape.shift shape.pages c.self.inside.pieces.items c.args.number c.index.result.now shape.shift_high
    c.self.invariant there
    ∙ ap (λ (m : GuestMemory). piece_of m c.args.number) c.self.view_is

pub returns-else-number-len-clause-made : goal.returns-else-number-len-clause-made
returns-else-number-len-clause-made c =
    let shape = c.self.inside.shape in
    let past : length c.self.inside.pieces.items ≤ c.args.number = omega
    (arith, c.if-number-len.false, c.len.ensures, c.self.inside.pieces.ok.0) in
    c.clear.ensures.items
    ∙ sym (no_piece shape.shift shape.pages c.self.inside.pieces.items c.args.number shape.shift_high c.self.invariant
    past)
    ∙ ap (λ (m : GuestMemory). piece_of m c.args.number) c.self.view_is
