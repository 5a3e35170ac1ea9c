use Rattle.std.proofs.Common.{◌≡◌, ℕ, ◌<◌, length, get_or}
use Rattle.std.specs.Mem.Slots.{slots_items}
use Rattle.dirty_words.proofs.closing.copy_dirty.Given as goal

abbrev pub invariant-loop-word : goal.invariant-loop-word
invariant-loop-word l = record {
  same : length l.dirty.items ≡ length l.initial.dirty.items;
  copied : (k : ℕ) → k < l.word → get_or l.dirty.items k 0 ≡ get_or (slots_items l.closed.words) k 0;
}
