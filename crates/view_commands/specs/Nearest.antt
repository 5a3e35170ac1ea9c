-- The nearest amounts that are taken in place of refused ones.
use Rattle.std.specs.Prelude.{◌≡◌, ℕ, ◌+◌, ◌-◌, ◌≤◌, Some, unwrap_or}
use Rattle.predictions.specs.Units.Limits.{limits_refusal, link_rate, threshold_for}
use Rattle.predictions.specs.Units.Scales.{TraceScale, rate_of, scale_refusal, ticks_in}
use Rattle.predictions.specs.declared.units.error.UnitsError.TheVariants as errors
use Rattle.predictions.specs.declared.units.limits.Limits.{Limits}
use Rattle.view_commands.specs.declared.ranges.RangeRefusal.{RangeRefusal}
use Rattle.view_commands.specs.declared.ranges.RangeRefusal.TheVariants as ranges

abbrev pub distance : ℕ → ℕ → ℕ
distance a b = (a - b) + (b - a)

-- n is taken, and nothing that is taken is nearer to what was asked
pub record IsNearest (IsTaken : ℕ → Type 0) (asked n : ℕ) : Type 0 where
  pub is_taken : IsTaken n
  pub none_nearer : (k : ℕ) → IsTaken k → distance asked n ≤ distance asked k

abbrev pub IsWithin : ℕ → ℕ → ℕ → Type 0
IsWithin least most n = (least ≤ n) × (n ≤ most)

-- the rate of so many bytes a second is 1 to `most` pages in 1,000 ticks
abbrev pub HasRate : TraceScale → ℕ → ℕ → Type 0
HasRate scale most bytes = IsWithin 1 most (rate_of scale bytes)

-- a downtime that has the reserve, and in the rest of which the link does not move more pages than may be left
abbrev pub HasDowntime : TraceScale → Limits → ℕ → Type 0
HasDowntime scale limits time =
    (limits.reserve ≤ time) × (threshold_for (ticks_in scale (time - limits.reserve)) (link_rate scale limits) ≤ 65_536)

-- the guest that is nearest to one of `guest` pages, and the nearest part of it
pub record IsNearestSample (asked nearest : ℕ × ℕ) : Type 0 where
  pub guest : IsNearest (IsWithin 1 4_294_967_296) asked.1 nearest.1
  pub sampled : IsNearest (IsWithin 1 nearest.1) asked.0 nearest.0

-- why a scale is refused: the first of its amounts that is not taken, and the nearest that is
abbrev pub TellsScale : TraceScale → RangeRefusal → Type 0
TellsScale scale (ranges.Tick asked nearest) =
    (scale_refusal scale ≡ Some errors.Tick) × (asked ≡ scale.tick) × IsNearest (IsWithin 1 1_000_000) asked nearest
TellsScale scale (ranges.Page asked nearest) =
    (scale_refusal scale ≡ Some errors.Page) × (asked ≡ scale.page) × IsNearest (IsWithin 16 4_096) asked nearest
TellsScale scale (ranges.Sampled asked nearest) =
    (scale_refusal scale ≡ Some errors.Sampled) × (asked ≡ (scale.sampled, scale.guest)) × IsNearestSample asked nearest
TellsScale scale (ranges.Link asked nearest) = ⊥
TellsScale scale (ranges.First asked nearest) = ⊥
TellsScale scale (ranges.Reserve asked nearest) = ⊥
TellsScale scale (ranges.Downtime asked nearest) = ⊥

-- why limits are refused: the first of them that is not taken, and the nearest that is
abbrev pub TellsLimits : TraceScale → Limits → RangeRefusal → Type 0
TellsLimits scale limits (ranges.Tick asked nearest) = ⊥
TellsLimits scale limits (ranges.Page asked nearest) = ⊥
TellsLimits scale limits (ranges.Sampled asked nearest) = ⊥
TellsLimits scale limits (ranges.Link asked nearest) =
    (limits_refusal scale limits ≡ Some errors.Link) × (asked ≡ limits.link)
    × IsNearest (HasRate scale 1_000_000) asked nearest
TellsLimits scale limits (ranges.First asked nearest) =
    (limits_refusal scale limits ≡ Some errors.First) × (asked ≡ unwrap_or limits.first limits.link)
    × IsNearest (HasRate scale (link_rate scale limits)) asked nearest
TellsLimits scale limits (ranges.Reserve asked nearest) =
    (limits_refusal scale limits ≡ Some errors.Reserve) × (asked ≡ limits.reserve)
    × IsNearest (λ time. time ≤ limits.downtime) asked nearest
TellsLimits scale limits (ranges.Downtime asked nearest) =
    (limits_refusal scale limits ≡ Some errors.Downtime) × (asked ≡ limits.downtime)
    × IsNearest (HasDowntime scale limits) asked nearest
