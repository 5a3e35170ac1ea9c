use Rattle.std.proofs.Common.{◌≡◌, ◌++◌, take}
use Rattle.std.specs.List.{flat_map}
use Rattle.trace_views.specs.Grid.{with_thresholds}
use Rattle.trace_views.proofs.grid.Grid.push_increments.Given as goal

abbrev pub invariant-loop-increment : goal.invariant-loop-increment
invariant-loop-increment l = l.cases.items ≡ l.fn.cases.items
    ++ flat_map (λ n. with_thresholds l.self (record l.asked { increment = n }))
    (take l.increment-index l.self.increment)
