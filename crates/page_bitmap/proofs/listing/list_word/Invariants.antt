use Rattle.std.proofs.Common.{◌≡◌, ◌+◌, ◌++◌, length, take}
use Rattle.page_bitmap.specs.Listing.{pages_of_word}
use Rattle.page_bitmap.proofs.listing.list_word.Given as goal

abbrev pub invariant-loop-left : goal.invariant-loop-left
invariant-loop-left l = record {
  listed : take l.next l.buffer ++ pages_of_word l.word l.left ≡ take l.slot l.fn.buffer ++ pages_of_word l.word l.bits;
  slot : l.next + length (pages_of_word l.word l.left) ≡ l.slot + length (pages_of_word l.word l.bits);
  len : length l.buffer ≡ length l.fn.buffer;
}

abbrev pub decreases-loop-left : goal.decreases-loop-left
decreases-loop-left l = length (pages_of_word l.word l.left)
