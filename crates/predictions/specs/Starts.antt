-- At which ticks a migration may begin. This project's own.
pub mod Cases
pub mod Costs
pub mod Choices
pub mod Texts
pub mod Ranges
pub mod RangeTexts
use Rattle.std.specs.Prelude.{◌≡◌, ℕ, ◌+◌, ◌-◌, ◌*◌, ◌/◌, ◌<◌, ◌≤◌, max, map, unwrap_or, List, Some, None}
use Rattle.std.specs.Int.{div_ceil}
use Rattle.std.specs.List.{range_with_len}
use Rattle.migration_model.specs.Rates.{MigrationSettings}
use Rattle.rate_limit.specs.Refusals.{refusal_of}
use Rattle.rate_limit.specs.declared.error.SettingsError.{SettingsError}
use Rattle.predictions.specs.declared.starts.error.StartsError.{StartsError}
use Rattle.predictions.specs.declared.starts.error.StartsError.TheVariants as errors
use Rattle.predictions.specs.declared.starts.cases.Starts.{Starts}

-- the tick after which there is no start: that of the trace's last touch if none is given
abbrev pub last_start : Starts → ℕ → ℕ
last_start starts last_tick = max (unwrap_or starts.to last_tick) starts.from

-- the ticks between two starts: if they are not given, the starts cut the trace into 200 parts at most
abbrev pub spacing_of : Starts → ℕ → ℕ
spacing_of starts last_tick = max (unwrap_or starts.every (div_ceil (last_start starts last_tick - starts.from) 200)) 1

abbrev pub count_of : Starts → ℕ → ℕ
count_of starts last_tick = (last_start starts last_tick - starts.from) / spacing_of starts last_tick + 1

-- the first start, and each that is a spacing after another, by its number
abbrev pub start_at : Starts → ℕ → ℕ → ℕ
start_at starts last_tick k = starts.from + k * spacing_of starts last_tick

-- the settings of a migration from a start, by its number
abbrev pub case_from : MigrationSettings → Starts → ℕ → ℕ → MigrationSettings
case_from settings starts last_tick k = record settings { start = start_at starts last_tick k }

-- the settings of a migration from each start, up to the last
abbrev pub cases_from : MigrationSettings → Starts → ℕ → List MigrationSettings
cases_from settings starts last_tick =
    map (case_from settings starts last_tick) (range_with_len 0 (count_of starts last_tick))

-- the settings of a start are refused for this, and those of no start before it are
pub record RefusesStart (settings : MigrationSettings) (starts : Starts) (last_tick : ℕ) (e : SettingsError)
    : Type 0 where
  pub few : count_of starts last_tick ≤ 4_096
  pub number : ℕ
  pub is_start : number < count_of starts last_tick
  pub before : (k : ℕ) → k < number → refusal_of (case_from settings starts last_tick k) ≡ None
  pub refused : refusal_of (case_from settings starts last_tick number) ≡ Some e

-- the settings of each start are in range
abbrev pub AreAccepted : MigrationSettings → Starts → ℕ → Type 0
AreAccepted settings starts last_tick =
    (k : ℕ) → k < count_of starts last_tick → refusal_of (case_from settings starts last_tick k) ≡ None

-- The starts are refused for this: there are more than 4,096 of them, or else the settings of one are out of range, or
-- else memory ran out.
abbrev pub RefusesStarts : MigrationSettings → Starts → ℕ → StartsError → Type 0
RefusesStarts settings starts last_tick errors.Memory =
    (count_of starts last_tick ≤ 4_096) × AreAccepted settings starts last_tick
RefusesStarts settings starts last_tick errors.TooMany = 4_096 < count_of starts last_tick
RefusesStarts settings starts last_tick (errors.Settings e) = RefusesStart settings starts last_tick e
