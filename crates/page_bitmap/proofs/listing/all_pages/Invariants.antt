use Rattle.std.proofs.Common.{◌≡◌, ℕ, nat_lt, length}
use Rattle.page_bitmap.specs.Listing.{word_count}
use Rattle.page_bitmap.specs.Pages.{in_words}
use Rattle.page_bitmap.proofs.listing.all_pages.Given as goal

abbrev pub invariant-loop-page : goal.invariant-loop-page
invariant-loop-page l = record {
  words : length l.words.items ≡ word_count l.pages;
  pages : (page : ℕ) → in_words l.words.items page ≡ nat_lt page l.page;
}
