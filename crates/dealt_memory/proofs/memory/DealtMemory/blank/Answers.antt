use Rattle.std.proofs.Common.{◌≡◌, ◌+◌, ◌-◌, ◌*◌, ◌^◌, ◌<◌, ◌≤◌, ℕ, List, [], ◌∷◌, ◌++◌, get_or, length, min, replicate}
use Rattle.std.proofs.Common.{sym, ap, subst, ◌∙◌, arith}
use Rattle.std.proofs.lemmas.List.{length-append}
use Rattle.migration_model.specs.Memory.{GuestMemory}
use Rattle.dealt_memory.specs.Pieces.{IsPiece}
use Rattle.dealt_memory.proofs.Joined.{bytes_of, none_is, none_more, pieces_more}
use Rattle.dealt_memory.proofs.memory.DealtMemory.blank.Goals as goal

pub loop-left-preserved : goal.loop-left-preserved
loop-left-preserved c =
    let shape = c.args.shape in
    let w = 2 ^ (18 - shape.shift) in
    let pieces = c.loop-left.pieces.items in
    let piece = c.none.result in
    let part = c.min.result in
    let left = c.loop-left.left in
    let before = c.loop-left.invariant in
    let next = c.in_ok-push.ensures.items in
    let few : part ≡ min left w = c.min.ensures ∙ ap (min left) c.piece_pages-most.ensures in
    let count : length c.push.new.self.items ≡ length pieces + 1 = ap length next
    ∙ length-append pieces (piece ∷ []) in
    let more : (length pieces + 1) * w ≡ length pieces * w + w = omega arith in
    let after : length c.push.new.self.items * w ≡ length pieces * w + w = ap (λ (k : ℕ). k * w) count ∙ more in
    let is = none_is shape.shift shape.pages (length pieces) part left piece c.none.ensures before.left
    (omega (arith, c.loop-left-test.true)) few in
    record {
      left = omega (arith, before.left, few, after);
      each = subst (λ (ps : List GuestMemory). (number : ℕ) (d : GuestMemory) → number < length ps
          → IsPiece shape.shift shape.pages number (get_or ps number d)) (sym next)
          (pieces_more shape.shift shape.pages pieces piece before.each is);
      none = ap bytes_of next
          ∙ none_more shape.shift pieces piece (shape.pages - left) part (shape.pages - (left - part)) before.none
          (ap (λ (m : GuestMemory). m.bytes) c.none.ensures) (omega (arith, before.left, few));
    }
