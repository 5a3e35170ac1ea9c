use Rattle.std.proofs.Common.{◌≡◌, ◌≤◌, take}
use Rattle.std.specs.List.{count_by}
use Rattle.page_bitmap.specs.Pages.{in_words}
use Rattle.predictions.proofs.redrawn.walk.count_in.Given as goal

abbrev pub invariant-loop-page : goal.invariant-loop-page
invariant-loop-page l = record {
  count : l.count ≡ count_by (in_words l.set) (take l.page-index l.drawn);
  few : l.count ≤ l.page-index;
}
