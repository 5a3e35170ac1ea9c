-- The settings that limits in bytes and time make, over a trace of some scale. The threshold is the least above the
-- pages that go over the link within the downtime. These rules are this project's own.
use Rattle.std.specs.Prelude.{◌≡◌, ℕ, ◌+◌, ◌-◌, ◌*◌, ◌/◌, nat_lt, not, if◌then◌else◌, Option, Some, None, unwrap_or}
use Rattle.migration_model.specs.Rates.{MigrationSettings}
use Rattle.rate_limit.specs.Refusals.{is_between, refusal_of}
use Rattle.predictions.specs.Units.Scales.{TraceScale, rate_of, ticks_in}
use Rattle.predictions.specs.declared.units.error.UnitsError.{UnitsError}
use Rattle.predictions.specs.declared.units.error.UnitsError.TheVariants as errors
use Rattle.predictions.specs.declared.units.limits.Limits.{Limits}

-- the rate of the link, and that of the first round
abbrev pub link_rate : TraceScale → Limits → ℕ
link_rate scale limits = rate_of scale limits.link

abbrev pub first_rate : TraceScale → Limits → ℕ
first_rate scale limits = rate_of scale (unwrap_or limits.first limits.link)

-- the ticks that the downtime leaves for pages
abbrev pub ticks_for_pages : TraceScale → Limits → ℕ
ticks_for_pages scale limits = ticks_in scale (limits.downtime - limits.reserve)

-- fewer pages than these go within `ticks` ticks at a rate
abbrev pub threshold_for : ℕ → ℕ → ℕ
threshold_for ticks rate = ticks * rate / 1_000 + 1

-- the settings of limits: others are as given, and so is the increment, or else it is a tenth of what the link has
-- above the first round
abbrev pub settings_in : TraceScale → Limits → Option ℕ → MigrationSettings → MigrationSettings
settings_in scale limits increment others = record others {
  min = first_rate scale limits;
  max = link_rate scale limits;
  threshold = threshold_for (ticks_for_pages scale limits) (link_rate scale limits);
  increment = unwrap_or increment ((link_rate scale limits - first_rate scale limits) / 10);
}

-- what limits are refused for: the first of them that is out of its range
abbrev pub limits_refusal : TraceScale → Limits → Option UnitsError
limits_refusal scale limits =
    if not (is_between 1 1_000_000 (link_rate scale limits)) then Some errors.Link
    else (if not (is_between 1 (link_rate scale limits) (first_rate scale limits)) then Some errors.First
    else (if nat_lt limits.downtime limits.reserve then Some errors.Reserve
    else (if nat_lt 65_536 (threshold_for (ticks_for_pages scale limits) (link_rate scale limits))
    then Some errors.Downtime
    else None)))

-- the settings that limits make are refused: for one of the limits, or else for another setting
abbrev pub RefusesLimits : TraceScale → Limits → Option ℕ → MigrationSettings → UnitsError → Type 0
RefusesLimits scale limits increment others (errors.Setting e) =
    (limits_refusal scale limits ≡ None) × (refusal_of (settings_in scale limits increment others) ≡ Some e)
RefusesLimits scale limits increment others errors.Tick = ⊥
RefusesLimits scale limits increment others errors.Page = ⊥
RefusesLimits scale limits increment others errors.Sampled = ⊥
RefusesLimits scale limits increment others errors.Link = limits_refusal scale limits ≡ Some errors.Link
RefusesLimits scale limits increment others errors.First = limits_refusal scale limits ≡ Some errors.First
RefusesLimits scale limits increment others errors.Reserve = limits_refusal scale limits ≡ Some errors.Reserve
RefusesLimits scale limits increment others errors.Downtime = limits_refusal scale limits ≡ Some errors.Downtime
