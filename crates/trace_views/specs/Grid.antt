-- The cases that advice is chosen from: the given settings, and then each combination of the values of some axes, if
-- none of its settings is out of range. This project's own.
use Rattle.std.specs.Prelude.{ℕ, ◌+◌, ◌*◌, ◌/◌, min, max, true, false, if◌then◌else◌, is_none, List, [], ◌∷◌, ◌++◌}
use Rattle.std.specs.List.{flat_map}
use Rattle.migration_model.specs.Rates.{MigrationSettings}
use Rattle.rate_limit.specs.Refusals.{refusal_of}
use Rattle.view_kinds.specs.declared.budget.Budget.{Budget}
use Rattle.trace_views.specs.declared.grid.Grid.{Grid}

-- a part of a number, at least 1
abbrev pub part : ℕ → ℕ → ℕ
part whole n = max (whole / n) 1

-- the least threshold above the number of pages that can be sent within some ticks at a rate
abbrev pub threshold_within : ℕ → ℕ → ℕ
threshold_within ticks rate = min (ticks * rate / 1000) 65_535 + 1

-- the axes for a greatest rate and a threshold
abbrev pub axes : ℕ → ℕ → Grid
axes rate threshold = record {
  min = rate ∷ part rate 2 ∷ part rate 4 ∷ part rate 8 ∷ [];
  increment = rate / 20 ∷ rate / 5 ∷ [];
  threshold = threshold ∷ part threshold 2 ∷ part threshold 4 ∷ part threshold 8 ∷ 1 ∷ [];
  rounds = 2 ∷ 8 ∷ 30 ∷ [];
}

-- the axes around some settings, for a budget
abbrev pub grid_of : MigrationSettings → Budget → Grid
grid_of s budget = axes s.max (threshold_within budget.down s.max)

-- settings, if none of them is out of range
abbrev pub kept : MigrationSettings → List MigrationSettings
kept s = if is_none (refusal_of s) then s ∷ [] else []

-- settings with each value of an axis, and with each of the axes below it
abbrev pub with_skips : MigrationSettings → List MigrationSettings
with_skips s = kept (record s { skip = false }) ++ kept (record s { skip = true })

abbrev pub with_rounds : Grid → MigrationSettings → List MigrationSettings
with_rounds grid s = flat_map (λ n. with_skips (record s { rounds = n })) grid.rounds

abbrev pub with_thresholds : Grid → MigrationSettings → List MigrationSettings
with_thresholds grid s = flat_map (λ n. with_rounds grid (record s { threshold = n })) grid.threshold

abbrev pub with_increments : Grid → MigrationSettings → List MigrationSettings
with_increments grid s = flat_map (λ n. with_thresholds grid (record s { increment = n })) grid.increment

abbrev pub with_minima : Grid → MigrationSettings → List MigrationSettings
with_minima grid s = flat_map (λ n. with_increments grid (record s { min = n })) grid.min

-- the cases that advice is chosen from
abbrev pub cases_on : Grid → MigrationSettings → List MigrationSettings
cases_on grid s = s ∷ with_minima grid s

abbrev pub cases_for : MigrationSettings → Budget → List MigrationSettings
cases_for s budget = cases_on (grid_of s budget) s
