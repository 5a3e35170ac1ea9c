use Rattle.std.proofs.Common.{◌≡◌, length, take}
use Rattle.page_bitmap.proofs.Listed.{listed}
use Rattle.page_bitmap.proofs.listing.list_pages.Given as goal

abbrev pub invariant-loop-word : goal.invariant-loop-word
invariant-loop-word l = record {
  list : take l.count l.buffer ≡ listed l.words l.word;
  count : l.count ≡ length (listed l.words l.word);
  len : length l.buffer ≡ length l.fn.buffer;
}
