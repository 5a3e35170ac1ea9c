use Rattle.std.proofs.Common.{◌≡◌, ℕ, ◌<◌, length, get_or}
use Rattle.migration_model.specs.Touches.{no_touch}
use Rattle.round_planner.specs.Indexing.{IsLast}
use Rattle.round_planner.proofs.index.RoundIndex.build.Given as goal

abbrev pub invariant-loop-number : goal.invariant-loop-number
invariant-loop-number g l = record {
  earlier_len : length l.earlier.items ≡ l.number;
  last_len : length l.last.items ≡ g.T.Timeline.pages l.timeline;
  earlier : (i : ℕ) → i < l.number → IsLast (g.T.Timeline.touches l.timeline) i
      (get_or (g.T.Timeline.touches l.timeline) i no_touch).page (get_or l.earlier.items i 0);
  last : (page : ℕ) → page < g.T.Timeline.pages l.timeline → IsLast (g.T.Timeline.touches l.timeline) l.number page
      (get_or l.last.items page 0);
}
