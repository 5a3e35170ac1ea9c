use Rattle.std.proofs.Common.{◌≤◌}
use Rattle.predictions.proofs.Started.{HaveCounts}
use Rattle.predictions.proofs.agreement.starting.start_counts.Given as goal

abbrev pub invariant-loop-number : goal.invariant-loop-number
invariant-loop-number g l = record {
  whole : l.counts.whole ≤ l.number;
  known : l.counts.known ≤ l.number;
  converging : l.counts.converging ≤ l.number;
  kept : l.counts.kept ≤ l.number;
  counts : HaveCounts l.measure.manner (g.T.Timeline.pages l.timeline) (g.T.Timeline.touches l.timeline) l.settings
      l.measure.scale l.measure.limits l.number l.counts;
}
