-- Why settings are refused: the first of them that is out of its range. This project's own.
use Rattle.std.specs.Prelude.{ℕ, ◌^◌, ◌&&◌, ◌==◌, nat_lt, nat_le, not, Bool, false, if◌then◌else◌, Option, Some, None}
use Rattle.migration_model.specs.Looks.{HypervisorSettings}
use Rattle.look_planner.specs.declared.error.LookSettingsError.{LookSettingsError}
use Rattle.look_planner.specs.declared.error.LookSettingsError.TheVariants.{Rate, Window, Threshold, Looks, End, Start}
use Rattle.look_planner.specs.declared.error.LookSettingsError.TheVariants.{Base}

-- neither 0 nor above a number
abbrev pub is_within : ℕ → ℕ → Bool
is_within high n = nat_le 1 n && nat_le n high

-- there is a greatest number of looks, and it is 0
abbrev pub is_no_most : Option ℕ → Bool
is_no_most None = false
is_no_most (Some most) = most == 0

-- there is a base, and it comes after the first tick
abbrev pub is_late : Option ℕ → ℕ → Bool
is_late None start = false
is_late (Some base) start = nat_lt start base

-- what settings are refused for
abbrev pub refusal_of : HypervisorSettings → Option LookSettingsError
refusal_of s =
    if not (is_within 1_000_000 s.rate) then Some Rate
    else (if nat_lt (2 ^ 40) s.window then Some Window
    else (if not (is_within 65_536 s.threshold) then Some Threshold
    else (if is_no_most s.looks then Some Looks
    else (if nat_lt (2 ^ 40) s.end then Some End
    else (if nat_lt s.end s.start then Some Start
    else (if is_late s.base s.start then Some Base
    else None))))))
