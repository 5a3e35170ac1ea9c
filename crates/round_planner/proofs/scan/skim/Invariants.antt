use Rattle.std.proofs.Common.{◌≡◌, ◌≤◌, ℕ, [], length, take, get_or}
use Rattle.round_planner.specs.Scanning.{IsProgress, IsScanWithin}
use Rattle.round_planner.proofs.Skims.{skim}
use Rattle.round_planner.proofs.scan.skim.Given as goal

abbrev pub invariant-loop-index : goal.invariant-loop-index
invariant-loop-index g l = record {
  scan : IsScanWithin (g.T.Timeline.pages l.timeline) (g.T.Timeline.touches l.timeline) l.now.step.from l.walk.at.tick
      l.walk.next l.marks;
  at : IsProgress l.pace l.walk.at;
  sent_is : take l.walk.at.sent l.room ≡ skim (g.T.Timeline.touches l.timeline) l.now.step.from l.now.step.rate []
      (take l.index (take l.now.listed l.fn.room));
  short : l.walk.at.sent ≤ l.index;
  room_len : length l.room ≡ length l.fn.room;
  rest : (k : ℕ) → l.index ≤ k → get_or l.room k 0 ≡ get_or l.fn.room k 0;
}
