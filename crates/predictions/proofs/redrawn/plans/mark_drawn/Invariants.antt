use Rattle.std.proofs.Common.{◌≡◌, ◌<◌, ℕ, true, get_or, length}
use Rattle.page_bitmap.specs.Listing.{word_count}
use Rattle.page_bitmap.specs.Pages.{in_words}
use Rattle.predictions.proofs.redrawn.plans.mark_drawn.Given as goal

abbrev pub invariant-loop-page : goal.invariant-loop-page
invariant-loop-page l = record {
  len : length l.listed ≡ word_count l.pages;
  each : (place : ℕ) → place < l.page-index → in_words l.listed (get_or l.drawn place 0) ≡ true;
}
