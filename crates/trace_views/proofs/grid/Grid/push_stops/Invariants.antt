use Rattle.std.proofs.Common.{◌≡◌, ◌++◌, take}
use Rattle.std.specs.List.{flat_map}
use Rattle.trace_views.specs.Grid.{with_rounds, with_skips}
use Rattle.trace_views.proofs.grid.Grid.push_stops.Given as goal

abbrev pub invariant-loop-threshold : goal.invariant-loop-threshold
invariant-loop-threshold l = l.cases.items ≡ l.fn.cases.items
    ++ flat_map (λ n. with_rounds l.self (record l.asked { threshold = n })) (take l.threshold-index l.self.threshold)

abbrev pub invariant-loop-rounds : goal.invariant-loop-rounds
invariant-loop-rounds l = l.cases.items ≡ l.initial.cases.items
    ++ flat_map (λ n. with_skips (record l.asked { threshold = l.threshold; rounds = n }))
    (take l.rounds-index l.self.rounds)
