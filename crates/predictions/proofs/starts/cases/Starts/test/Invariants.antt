use Rattle.std.proofs.Common.{◌≡◌, ℕ, ◌+◌, ◌*◌, ◌<◌, None}
use Rattle.rate_limit.specs.Refusals.{refusal_of}
use Rattle.predictions.proofs.starts.cases.Starts.test.Given as goal

abbrev pub invariant-loop-number : goal.invariant-loop-number
invariant-loop-number l =
    (k : ℕ) → k < l.number → refusal_of (record l.settings { start = l.self.from + k * l.every }) ≡ None
