use Rattle.std.proofs.Common.{◌≡◌, ℕ, ◌+◌, ◌<◌, length, get_or}
use Rattle.std.specs.Mem.Slots.{slots_items}
use Rattle.dirty_words.proofs.closing.copy_places.Given as goal

abbrev pub invariant-loop-page : goal.invariant-loop-page
invariant-loop-page l = record {
  same : length l.places.items ≡ length l.initial.places.items;
  copied : (k : ℕ) → k < l.page → get_or l.places.items k 0 ≡ get_or (slots_items l.closed.words) (l.first + k) 0;
}
