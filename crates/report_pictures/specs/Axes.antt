-- Where numbers and ticks are in a picture, and which ticks have labels. This project's own.
use Rattle.std.specs.Prelude.{◌≡◌, ◌⊎◌, ℕ, ◌+◌, ◌-◌, ◌*◌, ◌/◌, ◌^◌, ◌≤◌, min, max}

-- a part's share of some room for the whole, rounded down: all of the room at most; a whole of 0 counts as 1
abbrev pub share_of : ℕ → ℕ → ℕ → ℕ
share_of part whole room = min (part * room / max whole 1) room

-- where a tick is, on an axis that goes from the tick `first` to the tick `last`, and from 90 to 890 in the picture
abbrev pub place_of : ℕ → ℕ → ℕ → ℕ
place_of first last tick = 90 + share_of (tick - first) (last - first) 800

-- 1, 2 or 5 times a power of 10
abbrev pub IsRound : ℕ → Type 0
IsRound n = (k : ℕ) × ((n ≡ 10 ^ k) ⊎ ((n ≡ 2 * 10 ^ k) ⊎ (n ≡ 5 * 10 ^ k)))

-- the ticks between two labels: the least round number that fits into the span no more than six times
pub record IsStep (span step : ℕ) : Type 0 where
  pub round : IsRound step
  pub few : span / step ≤ 6
  pub least : (n : ℕ) → IsRound n → span / n ≤ 6 → step ≤ n
