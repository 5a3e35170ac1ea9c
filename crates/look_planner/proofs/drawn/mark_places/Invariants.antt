use Rattle.std.proofs.Common.{◌≡◌, ◌<◌, ◌≤◌, ◌||◌, ℕ, get_or, length}
use Rattle.page_bitmap.specs.Pages.{in_words}
use Rattle.look_planner.proofs.drawn.mark_places.Given as goal

abbrev pub invariant-loop-place : goal.invariant-loop-place
invariant-loop-place l = record {
  len : length l.places ≡ length l.fn.places;
  marked : (place : ℕ) → place < l.place
      → in_words l.places place ≡ (in_words l.fn.places place || in_words l.marks (get_or l.drawn place 0));
  others : (place : ℕ) → l.place ≤ place → in_words l.places place ≡ in_words l.fn.places place;
}
