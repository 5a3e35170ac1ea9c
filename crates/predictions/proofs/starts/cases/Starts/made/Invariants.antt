use Rattle.std.proofs.Common.{◌≡◌, ◌+◌, ◌*◌, map}
use Rattle.std.specs.List.{range_with_len}
use Rattle.predictions.proofs.starts.cases.Starts.made.Given as goal

abbrev pub invariant-loop-number : goal.invariant-loop-number
invariant-loop-number l =
    l.cases.items ≡ map (λ k. record l.settings { start = l.self.from + k * l.every }) (range_with_len 0 l.number)
