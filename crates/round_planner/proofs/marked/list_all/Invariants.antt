use Rattle.std.proofs.Common.{◌≡◌, ◌≤◌, length, take}
use Rattle.std.specs.List.{range_with_len}
use Rattle.round_planner.proofs.marked.list_all.Given as goal

abbrev pub invariant-loop-page : goal.invariant-loop-page
invariant-loop-page l = record {
  list : take l.page l.room ≡ range_with_len 0 l.page;
  room_len : length l.room ≡ l.count;
  high : l.page ≤ l.count;
}
