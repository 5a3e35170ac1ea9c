-- Which of some schedules is the best: one that keeps all limits comes before one that does not, then less time counts,
-- and then fewer bytes. This project's own.
use Rattle.std.specs.Prelude.{ℕ, Bool, if◌then◌else◌, List, length}
use Rattle.std.specs.List.{IsFirstBest}
use Rattle.std.specs.Ordering.{is_lt, nat_cmp, on, then_cmp}
use Rattle.std.specs.declared.cmp.Ordering.{Ordering}
use Rattle.move_schedules.specs.declared.costs.ScheduleCost.{ScheduleCost}

-- 0 if all limits are kept, and else 1
abbrev pub misses : ScheduleCost → ℕ
misses cost = if cost.is_kept then 0 else 1

-- the better one is less
abbrev pub schedule_cmp : ScheduleCost → ScheduleCost → Ordering
schedule_cmp = then_cmp (on misses nat_cmp) (then_cmp (on (λ c. c.time) nat_cmp) (on (λ c. c.bytes) nat_cmp))

abbrev pub is_better_schedule : ScheduleCost → ScheduleCost → Bool
is_better_schedule a b = is_lt (schedule_cmp a b)

-- no other schedule is better, and none before it is as good
abbrev pub IsBestSchedule : List ScheduleCost → ℕ → Type 0
IsBestSchedule costs = IsFirstBest is_better_schedule costs (length costs)
