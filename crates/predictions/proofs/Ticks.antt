-- The ticks of starts.
use Rattle.std.proofs.Common.{ℕ, ◌+◌, ◌-◌, ◌*◌, ◌/◌, ◌≤◌, arith}
use Rattle.std.proofs.Math.Nat.{mul-le-mul_left}

-- no start comes after the last tick
pub within : (from last every number : ℕ) → 1 ≤ every → from ≤ last → number ≤ (last - from) / every
    → from + number * every ≤ last
within from last every number some order low = omega (arith, mul-le-mul_left every low)
