use Rattle.std.proofs.Common.{◌≡◌, ◌≤◌, ℕ, nat_lt, length}
use Rattle.page_bitmap.specs.Listing.{word_count}
use Rattle.page_bitmap.specs.Pages.{in_words}
use Rattle.look_planner.proofs.bitmap.mark_all.Given as goal

abbrev pub invariant-loop-page : goal.invariant-loop-page
invariant-loop-page l = record {
  words : length l.marks ≡ word_count l.pages;
  pages : (page : ℕ) → in_words l.marks page ≡ nat_lt page l.page;
  high : l.page ≤ l.pages;
}
