-- Why settings are refused: the first of them that is out of its range. This project's own.
use Rattle.std.specs.Prelude.{ℕ, ◌^◌, ◌&&◌, nat_lt, nat_le, not, Bool, false, if◌then◌else◌, Option, Some, None}
use Rattle.migration_model.specs.Rates.{MigrationSettings}
use Rattle.rate_limit.specs.declared.error.SettingsError.{SettingsError}
use Rattle.rate_limit.specs.declared.error.SettingsError.TheVariants.{MinRate, MaxRate, Increment, Threshold, Rounds}
use Rattle.rate_limit.specs.declared.error.SettingsError.TheVariants.{WindowLength, HotWindows, StartTick, Parallelism}
use Rattle.rate_limit.specs.declared.error.SettingsError.TheVariants.{BaseTick}

-- neither below the first nor above the second
abbrev pub is_between : ℕ → ℕ → ℕ → Bool
is_between low high n = nat_le low n && nat_le n high

-- the workers, streams, replayers and the frames of a lane are in range
abbrev pub is_parallelism : MigrationSettings → Bool
is_parallelism s = is_between 1 16 s.workers && is_between 1 16 s.streams && is_between 1 16 s.replayers
    && is_between 1 65_536 s.lane

-- there is a base, and it comes after the first tick
abbrev pub is_late : Option ℕ → ℕ → Bool
is_late None start = false
is_late (Some base) start = nat_lt start base

-- what settings are refused for
abbrev pub refusal_of : MigrationSettings → Option SettingsError
refusal_of s =
    if not (is_between 1 1_000_000 s.min) then Some MinRate
    else (if not (is_between s.min 1_000_000 s.max) then Some MaxRate
    else (if nat_lt 1_000_000 s.increment then Some Increment
    else (if not (is_between 1 65_536 s.threshold) then Some Threshold
    else (if not (is_between 1 64 s.rounds) then Some Rounds
    else (if not (is_between 1 (2 ^ 40) s.window) then Some WindowLength
    else (if not (is_between 1 1_048_576 s.hot) then Some HotWindows
    else (if nat_le (2 ^ 40) s.start then Some StartTick
    else (if not (is_parallelism s) then Some Parallelism
    else (if is_late s.base s.start then Some BaseTick
    else None)))))))))
