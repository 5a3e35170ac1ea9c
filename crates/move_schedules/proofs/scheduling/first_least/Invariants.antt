use Rattle.std.proofs.Common.{ℕ, ◌<◌, ◌≤◌, get_or}
use Rattle.move_schedules.proofs.scheduling.first_least.Given as goal

abbrev pub invariant-loop-number : goal.invariant-loop-number
invariant-loop-number l = record {
  in_range : l.least < l.number;
  least : (k : ℕ) → k < l.number → get_or l.numbers l.least 0 ≤ get_or l.numbers k 0;
  first : (k : ℕ) → k < l.least → get_or l.numbers l.least 0 < get_or l.numbers k 0;
}
