-- The ranges of what a migration costs, which may begin at any tick of a recording: each number by itself, from several
-- starts. This project's own.
use Rattle.std.specs.Prelude.{◌≡◌, ℕ, ◌-◌, ◌≤◌, ◌&&◌, nat_le, Bool, List, [], length, map}
use Rattle.std.specs.Prelude.{unwrap_or, Option, None, Some}
use Rattle.std.specs.Int.{div_ceil}
use Rattle.std.specs.List.{All, Contains, count_by}
use Rattle.predictions.specs.Units.Scales.{TraceScale}
use Rattle.predictions.specs.declared.units.limits.Limits.{Limits}
use Rattle.migration_model.specs.Rates.{MigrationSettings}
use Rattle.predictions.specs.Starts.Choices.{known_of}
use Rattle.predictions.specs.Starts.Costs.{CostAtStart, costs_at_starts}
use Rattle.predictions.specs.declared.starts.cases.Starts.{Starts}
use Rattle.predictions.specs.Courses.Ends.{converges}
use Rattle.predictions.specs.declared.starts.planned.PlannedCase.{PlannedCase}

-- the starts: at most 21, from the tick of the copy at the destination, or else from tick 0, to the last tick
abbrev pub spread_starts : MigrationSettings → ℕ → Starts
spread_starts s last_tick = record {
  from = unwrap_or s.base 0;
  to = None;
  every = Some (div_ceil (last_tick - unwrap_or s.base 0) 20);
}

-- how long a migration takes, what it sends, and how long the guest does not run
pub record MigrationNumbers : Type 0 where
  pub time : ℕ
  pub bytes : ℕ
  pub downtime : ℕ

-- of how many starts the ranges are, from how many of them the migration ends within the trace, from how many it
-- converges, from how many it keeps its limit; and what it costs at least and at most
pub record RangesOfStarts : Type 0 where
  pub count : ℕ
  pub known : ℕ
  pub converging : ℕ
  pub kept : ℕ
  pub least : MigrationNumbers
  pub greatest : MigrationNumbers

-- the least and the greatest of some numbers
pub record IsRange (numbers : List ℕ) (least greatest : ℕ) : Type 0 where
  pub least_in : Contains numbers least
  pub greatest_in : Contains numbers greatest
  pub between : All (λ n. (least ≤ n) × (n ≤ greatest)) numbers

-- what the known migrations cost at least and at most
pub record AreExtremes (known : List CostAtStart) (least greatest : MigrationNumbers) : Type 0 where
  pub time : IsRange (map (λ at. at.cost.time) known) least.time greatest.time
  pub bytes : IsRange (map (λ at. at.cost.bytes) known) least.bytes greatest.bytes
  pub downtime : IsRange (map (λ at. at.cost.downtime) known) least.downtime greatest.downtime

-- whether the migration of a case converges within touches of which the last has this tick
abbrev pub converges_by : ℕ → PlannedCase → Bool
converges_by last_tick case = nat_le case.course.stop last_tick && converges case.course.ending

-- the ranges of what some migrations cost, of which these are known
pub record AreRangesOf (last_tick : ℕ) (cases : List PlannedCase)
    (known : List CostAtStart) (ranges : RangesOfStarts) : Type 0 where
  pub count_is : ranges.count ≡ length cases
  pub known_is : ranges.known ≡ length known
  pub converging_is : ranges.converging ≡ count_by (converges_by last_tick) cases
  pub kept_is : ranges.kept ≡ count_by (λ at. at.cost.is_kept) known
  pub extremes : AreExtremes known ranges.least ranges.greatest

-- the ranges of what the migrations of some cases cost, if one of them is known
abbrev pub AreRanges : TraceScale → Limits → ℕ → List PlannedCase → Option RangesOfStarts → Type 0
AreRanges scale limits last_tick cases None = known_of (costs_at_starts scale limits last_tick cases) ≡ []
AreRanges scale limits last_tick cases (Some ranges) =
    AreRangesOf last_tick cases (known_of (costs_at_starts scale limits last_tick cases)) ranges
