use Rattle.std.proofs.Common.{◌≡◌, ◌+◌, ◌*◌, ◌^◌, ◌<◌, ◌≤◌, ℕ, List, drop, get_or, length, take, sym, ap, subst, ◌∙◌}
use Rattle.std.proofs.lemmas.List.{get_or_default}
use Rattle.migration_model.specs.Memory.{bytes_put, put}
use Rattle.migration_model.specs.Trace.{write_with}
use Rattle.migration_model.proofs.Pages.{length-put}
use Rattle.dealt_memory.specs.Spots.{HoldsWrites}
use Rattle.dealt_memory.specs.declared.piece_writes.Spot.{Spot}
use Rattle.dealt_memory.proofs.Spotted.{HoldsFirst, front, holds_first, one_applied, spot_first, within_memory}
use Rattle.dealt_memory.proofs.piece_writes.put_spots.Goals as goal

abbrev none : Spot
none = record { page = 0; offset = 0; length = 0 }

-- what holds of the spots from one on holds of that one
held : (shift pages : ℕ) (spots : List Spot) (i : ℕ) (rest : List ℕ) → i < length spots
    → HoldsWrites shift pages (drop i spots) rest
    → HoldsFirst shift pages (get_or spots i none) (drop (i + 1) spots) rest
held shift pages spots i rest low holds =
    let spot = get_or spots i none in
    holds_first shift pages spot (drop (i + 1) spots) rest
    (subst (λ (ss : List Spot). HoldsWrites shift pages ss rest)
    (spot_first spots i spot low (get_or_default spots i none spot low)) holds)

pub put_at-requires : goal.put_at-requires
put_at-requires c =
    let shape = c.args.shape in
    let spot = get_or c.args.spots.now c.loop-spot.spot-index none in
    let rest = c.loop-spot.rest.now in
    let first = held shape.shift shape.pages c.args.spots.now c.loop-spot.spot-index rest c.loop-spot-test.true
    c.loop-spot.invariant.holds in
    subst (λ (n : ℕ). spot.page * n + spot.offset
    + length (bytes_put shape.shift (write_with 0 spot.page spot.offset c.split_at.result.0.now))
    ≤ length c.loop-spot.memory) (sym c.page_size.ensures)
    (subst (λ (bs : List ℕ). spot.page * 2 ^ shape.shift + spot.offset
    + length (bytes_put shape.shift (write_with 0 spot.page spot.offset bs)) ≤ length c.loop-spot.memory)
    (sym c.split_at.ensures.front)
    (within_memory shape.shift shape.pages (front spot rest) c.loop-spot.memory c.loop-spot.invariant.len first.fit))

pub loop-spot-preserved : goal.loop-spot-preserved
loop-spot-preserved c =
    let shape = c.args.shape in
    let spots = c.args.spots.now in
    let i = c.loop-spot.spot-index in
    let spot = get_or spots i none in
    let rest = c.loop-spot.rest.now in
    let memory = c.loop-spot.memory in
    let before = c.loop-spot.invariant in
    let first = held shape.shift shape.pages spots i rest c.loop-spot-test.true before.holds in
    let place : ℕ = spot.page * 2 ^ shape.shift + spot.offset in
    let next : c.put_at.new.bytes ≡ put memory place (bytes_put shape.shift (front spot rest)) = c.put_at.ensures
    ∙ (λ j. put memory (spot.page * c.page_size.ensures j + spot.offset)
    (bytes_put shape.shift (write_with 0 spot.page spot.offset (c.split_at.ensures.front j)))) in
    record {
      holds = subst (HoldsWrites shape.shift shape.pages (drop (i + 1) spots)) (sym c.split_at.ensures.back) first.rest;
      len = ap length next
          ∙ length-put memory place (bytes_put shape.shift (front spot rest))
          (within_memory shape.shift shape.pages (front spot rest) memory before.len first.fit) ∙ before.len;
      made = one_applied shape.shift shape.pages memory c.put_at.new.bytes rest c.split_at.result.1.now spots i spot
          c.loop-spot-test.true (get_or_default spots i none spot c.loop-spot-test.true) c.split_at.ensures.back next
          ∙ before.made;
    }
