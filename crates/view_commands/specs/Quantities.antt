-- Numbers followed by a unit. A time is counted in microseconds, and a rate in bytes a second. Units of rates are
-- written as in `tc` and `ip` of Linux, without "per second".
use Rattle.std.specs.Prelude.{◌≡◌, ℕ, ◌<◌, ◌*◌, ◌/◌, ◌^◌, List, [], ◌∷◌, ◌++◌, Any, codes}
use Rattle.view_commands.specs.Decimals.{IsDecimal, IsWhole}

-- a unit's name and its factor
pub record Unit : Type 0 where
  pub name : List ℕ
  pub factor : ℕ

abbrev pub unit_with : List ℕ → ℕ → Unit
unit_with name factor = record { name = name; factor = factor }

-- the word is a decimal number followed by this unit, and stands for n: the number times the factor, rounded down
pub record IsCounted (word name : List ℕ) (factor n : ℕ) : Type 0 where
  pub text : List ℕ
  pub word_is : word ≡ text ++ name
  pub digits : ℕ
  pub places : ℕ
  pub decimal : IsDecimal text digits places
  pub is_rounded : n ≡ digits * factor / 10 ^ places
  pub fits : n < 2 ^ 64

-- the word is a decimal number followed by one of these units
abbrev pub IsQuantity : List Unit → List ℕ → ℕ → Type 0
IsQuantity units word n = Any (λ unit. IsCounted word unit.name unit.factor n) units

-- microseconds, milliseconds, seconds, minutes and hours
abbrev pub time_units : List Unit
time_units =
    unit_with (codes "us") 1 ∷ unit_with (codes "ms") 1_000 ∷ unit_with (codes "s") 1_000_000
    ∷ unit_with (codes "m") 60_000_000 ∷ unit_with (codes "h") 3_600_000_000 ∷ []

-- bits, bytes, and bytes by powers of two
abbrev pub rate_units : List Unit
rate_units =
    unit_with (codes "Kbit") 125 ∷ unit_with (codes "Mbit") 125_000 ∷ unit_with (codes "Gbit") 125_000_000
    ∷ unit_with (codes "KB") 1_000 ∷ unit_with (codes "MB") 1_000_000 ∷ unit_with (codes "GB") 1_000_000_000
    ∷ unit_with (codes "KiB") 1_024 ∷ unit_with (codes "MiB") 1_048_576 ∷ unit_with (codes "GiB") 1_073_741_824 ∷ []

-- the word is a time of this many microseconds, and a rate of this many bytes a second
abbrev pub IsTime : List ℕ → ℕ → Type 0
IsTime word n = IsQuantity time_units word n

abbrev pub IsRate : List ℕ → ℕ → Type 0
IsRate word n = IsQuantity rate_units word n

-- the word says that `sampled` of `guest` pages were sampled: two whole numbers with a slash (47) between
pub record IsSample (word : List ℕ) (sampled guest : ℕ) : Type 0 where
  pub before : List ℕ
  pub behind : List ℕ
  pub word_is : word ≡ before ++ 47 ∷ behind
  pub sampled_is : IsWhole before sampled
  pub guest_is : IsWhole behind guest
