use Rattle.std.proofs.Common.{◌≡◌, ℕ, ◌<◌, length, get_or, take}
use Rattle.std.specs.Prelude.{All, AllPairs}
use Rattle.move_schedules.specs.Schedules.{AreInTurn, EndsInTime, IsSchedule, TakeTurns, slot_free}
use Rattle.move_schedules.proofs.scheduling.schedule.Given as goal

abbrev pub invariant-loop-each : goal.invariant-loop-each
invariant-loop-each l = record {
  made : IsSchedule l.slots (take l.each-index l.moves) l.placed.items;
  long : length l.placed.items ≡ l.each-index;
  wide : length l.free.items ≡ l.slots;
  free : (k : ℕ) → k < l.slots → get_or l.free.items k 0 ≡ slot_free l.placed.items k;
  in_time : All (EndsInTime l.each-index) l.placed.items;
  in_turn : AllPairs AreInTurn l.placed.items;
  take_turns : AllPairs TakeTurns l.placed.items;
}
