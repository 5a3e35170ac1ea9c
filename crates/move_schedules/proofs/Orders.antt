-- Being better is an order.
use Rattle.std.proofs.Common.{false}
use Rattle.std.specs.Cmp.{IsStrictWeakOrder}
use Rattle.std.proofs.lemmas.Cmp.{nat_cmp_total, on_total, then_total}
use Rattle.std.proofs.lemmas.List.MinMax.{ranks_by}
use Rattle.move_schedules.specs.Choices.{is_better_schedule, misses}
use Rattle.move_schedules.specs.declared.costs.ScheduleCost.{ScheduleCost}

pub better_order : IsStrictWeakOrder is_better_schedule
better_order = ranks_by
    (then_total (on_total misses nat_cmp_total)
    (then_total (on_total (λ (c : ScheduleCost). c.time) nat_cmp_total)
    (on_total (λ (c : ScheduleCost). c.bytes) nat_cmp_total))) (λ (c : ScheduleCost). c)

-- what an element is of which nothing is known
abbrev pub no_cost : ScheduleCost
no_cost = record { is_kept = false; time = 0; bytes = 0; downtime = 0 }
