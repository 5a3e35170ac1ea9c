-- What a schedule costs.
use Rattle.std.specs.Prelude.{ℕ, ◌&&◌, nat_le, sum_by, Bool, true, List, Option, Some, None}
use Rattle.std.specs.List.{list_all}
use Rattle.move_schedules.specs.Greatest.{greatest}
use Rattle.move_schedules.specs.declared.costs.ScheduleCost.{ScheduleCost}
use Rattle.move_schedules.specs.declared.moves.Move.{Move}
use Rattle.move_schedules.specs.declared.moves.Placement.{Placement}

-- when the last move ends
abbrev pub time_of : List Placement → ℕ
time_of placed = greatest (λ p. p.end) placed

abbrev pub worst_downtime : List Move → ℕ
worst_downtime moves = greatest (λ m. m.downtime) moves

abbrev pub is_within : Option ℕ → ℕ → Bool
is_within None time = true
is_within (Some deadline) time = nat_le time deadline

-- the limits are those of all guests, and the deadline if there is one
abbrev pub cost_of : Option ℕ → List Move → List Placement → ScheduleCost
cost_of deadline moves placed = record {
  is_kept = list_all (λ m. m.is_kept) moves && is_within deadline (time_of placed);
  time = time_of placed;
  bytes = sum_by (λ m. m.bytes) moves;
  downtime = worst_downtime moves;
}
