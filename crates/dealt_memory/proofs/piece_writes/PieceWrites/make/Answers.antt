use Rattle.std.proofs.Common.{◌≡◌, ◌-◌, ◌*◌, ◌^◌, ℕ, ◌++◌, drop, length, replicate, take, ap, ◌∙◌, arith}
use Rattle.std.proofs.Math.Seq.{take-nil}
use Rattle.std.proofs.lemmas.List.{take_at}
use Rattle.migration_model.specs.Memory.{GuestMemory, apply, memory_with, replay}
use Rattle.std.specs.List.{fold}
use Rattle.dealt_memory.specs.Spots.{spotted}
use Rattle.dealt_memory.proofs.Spotted.{length_replayed}
use Rattle.dealt_memory.proofs.piece_writes.PieceWrites.make.Goals as goal

pub unreachable-requires : goal.unreachable-requires
unreachable-requires c =
    let shape = c.self.inside.shape in
    let view = ap (λ (m : GuestMemory). length m.bytes) c.self.view_is in
    let size = length_replayed shape.shift shape.pages
    (spotted c.self.inside.spots.items c.self.inside.bytes.items) c.self.invariant.fit in
    let pages = ap (λ (n : ℕ). shape.pages * n) c.page_size.ensures in
    omega (
      arith,
      c.in_default.ensures.full,
      c.clear.ensures.capacity,
      c.clear.ensures.len,
      view,
      size,
      pages,
      c.requires,
    )

pub returns-clause-made : goal.returns-clause-made
returns-clause-made c =
    let shape = c.self.inside.shape in
    let writes = spotted c.self.inside.spots.items c.self.inside.bytes.items in
    let n = shape.pages * c.page_size.result in
    let size : n ≡ shape.pages * 2 ^ shape.shift = ap (λ (k : ℕ). shape.pages * k) c.page_size.ensures in
    let whole : n - 0 ≡ shape.pages * 2 ^ shape.shift = omega (arith, size) in
    let zeros : c.deref_mut.result.now ≡ replicate (shape.pages * 2 ^ shape.shift) 0 = c.deref_mut.ensures.value
    ∙ c.in-Ok.ensures.items
    ∙ (λ j. take n (c.clear.ensures.items j) ++ replicate (n - c.clear.ensures.len j) 0)
    ∙ (λ j. take-nil n j ++ replicate (whole j) 0) in
    let made : c.put_spots.new.memory ≡ (replay shape.shift shape.pages writes).bytes = c.put_spots.ensures
    ∙ (λ j. (fold apply (memory_with shape.shift shape.pages (zeros j))
    (spotted (c.deref.ensures.value j) (c.deref-2.ensures.value j))).bytes) in
    let length_is = length_replayed shape.shift shape.pages writes c.self.invariant.fit in
    take_at c.put_spots.new.memory (drop (length c.put_spots.new.memory) c.resize.new.self.items) c.resize.new.self.len
    (omega (arith, ap length made, length_is, size, c.in-Ok.ensures.len))
    ∙ made ∙ ap (λ (m : GuestMemory). m.bytes) c.self.view_is
