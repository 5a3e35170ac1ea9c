use Rattle.std.proofs.Common.{◌≡◌, ◌+◌, ◌-◌, length, replicate}
use Rattle.page_bitmap.specs.Listing.{word_count}
use Rattle.look_planner.specs.Bitmaps.{IsReady}
use Rattle.look_planner.specs.DrawnPages.{redrawn_touches}
use Rattle.look_planner.proofs.SummedLists.{IsSummed}
use Rattle.look_planner.proofs.drawn.sum_drawn.Given as goal

abbrev pub invariant-loop-end : goal.invariant-loop-end
invariant-loop-end g l = record {
  way : IsSummed (length l.drawn) (redrawn_touches l.drawn (g.T.Timeline.touches l.timeline)) l.settings l.now l.room
      l.sums;
  ready : IsReady (g.T.Timeline.pages l.timeline) (g.T.Timeline.touches l.timeline) l.now l.marks;
  places : l.places ≡ replicate (word_count (length l.drawn)) 0;
}

abbrev pub decreases-loop-end : goal.decreases-loop-end
decreases-loop-end g l = (l.settings.end - l.now.from) + (1 - l.now.listed)
