-- What a destination has before the first round, and what it lacks.
use Rattle.std.specs.Prelude.{ℕ, nat_lt, Bool, true, Option, None, Some}
use Rattle.migration_model.specs.Trace.{GuestTrace}
use Rattle.migration_model.specs.Versions.{version_before}

-- whether the first round, which begins at this tick, must send a page: each, or, with a base, if the page's version is
-- no longer that of the base
abbrev pub is_lacking : GuestTrace → Option ℕ → ℕ → ℕ → Bool
is_lacking trace None start page = true
is_lacking trace (Some base) start page = nat_lt (version_before trace page base) (version_before trace page start)
