use Rattle.std.proofs.Common.{◌≡◌, ◌++◌, take}
use Rattle.std.specs.List.{flat_map}
use Rattle.trace_views.specs.Grid.{with_increments}
use Rattle.trace_views.proofs.grid.Grid.push_minima.Given as goal

abbrev pub invariant-loop-min : goal.invariant-loop-min
invariant-loop-min l = l.cases.items ≡ l.fn.cases.items ++ flat_map
    (λ n. with_increments l.self (record l.asked { min = n })) (take l.min-index l.self.min)
