use Rattle.std.proofs.Common.{◌≡◌, ◌≤◌, ◌+◌, ◌*◌, ◌/◌, [], get_or, length}
use Rattle.std.specs.List.{filter, range_with_len}
use Rattle.page_bitmap.specs.Pages.{in_words}
use Rattle.look_planner.specs.DrawnPages.{redrawn_touches}
use Rattle.round_planner.specs.Scanning.{IsScanWithin}
use Rattle.round_planner.proofs.Skims.{skim}
use Rattle.predictions.proofs.redrawn.walk.count_sent.Given as goal

abbrev pub invariant-loop-page : goal.invariant-loop-page
invariant-loop-page g l = record {
  scan : IsScanWithin (g.T.Timeline.pages l.timeline) (g.T.Timeline.touches l.timeline) l.step.from
      (l.step.from + 1_000 * l.walk.sent / l.step.rate) l.walk.next l.marks;
  sent_is : l.walk.sent ≡ length (skim (redrawn_touches l.drawn (g.T.Timeline.touches l.timeline)) l.step.from
      l.step.rate [] (filter (λ place. in_words l.listed (get_or l.drawn place 0)) (range_with_len 0 l.page-index)));
  short : l.walk.sent ≤ l.page-index;
}
