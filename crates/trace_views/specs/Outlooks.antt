-- What is predicted of a migration over a log.
use Rattle.std.specs.Prelude.{Bool, true, false, List, Option, None, Some}
use Rattle.predictions.specs.Agreements.{IsAgreement}
use Rattle.predictions.specs.Remedies.{AreRemedies}
use Rattle.predictions.specs.Remedies.Trials.{MigrationTrial}
use Rattle.migration_model.specs.Looks.{PlanEnd, few_left, looks_done, record_ends}
use Rattle.migration_model.specs.Rates.{MigrationSettings}
use Rattle.migration_model.specs.Touches.{GuestTouches, last_tick_of}
use Rattle.predictions.specs.Shares.{IsLinkShare, VerdictAt}
use Rattle.predictions.specs.Starts.Cases.{AreCases}
use Rattle.predictions.specs.Starts.Ranges.{AreRanges, RangesOfStarts, spread_starts}
use Rattle.predictions.specs.Starts.{cases_from}
use Rattle.predictions.specs.Predictions.Traces.{IsPrediction}
use Rattle.predictions.specs.Looks.{IsForecast, LookForecast}
use Rattle.predictions.specs.Redrawn.Errors.{AreErrors}
use Rattle.predictions.specs.declared.course.Manner.{Manner}
use Rattle.predictions.specs.declared.course.Manner.TheVariants as manners
use Rattle.predictions.specs.declared.measure.Measure.{Measure}
use Rattle.predictions.specs.declared.starts.planned.PlannedCase.{PlannedCase}
use Rattle.trace_views.specs.declared.outlook.Outlook.{Outlook}
use Rattle.view_kinds.specs.declared.view.AskedPrediction.{AskedPrediction}

-- the ranges of what a migration costs from several starts, from each by its own plan
pub record AreRangesOver (log : GuestTouches) (s : MigrationSettings) (measure : Measure)
    (ranges : Option RangesOfStarts) : Type 0 where
  pub cases : List PlannedCase
  pub are_cases : AreCases measure.manner log.pages log.touches measure.scale
      (cases_from s (spread_starts s (last_tick_of log.touches)) (last_tick_of log.touches)) cases
  pub are_ranges : AreRanges measure.scale measure.limits (last_tick_of log.touches) cases ranges

-- by what the migration that is asked for is judged
abbrev pub measure_of : AskedPrediction → Measure
measure_of asked = record { scale = asked.scale; limits = asked.limits; manner = asked.manner }

-- the migration that is asked for, whose limits are changed to find what is enough
abbrev pub trial_of : AskedPrediction → MigrationTrial
trial_of asked = record {
  scale = asked.scale;
  limits = asked.limits;
  increment = asked.increment;
  others = asked.settings;
  manner = asked.manner;
}

-- what the plan predicts, how far chance moves that if pages were sampled, what comes of it if the hypervisor looks as
-- QEMU does, the ranges over starts, in how many draws and from how many starts the answers are the same, down to which
-- share of the link the verdict is the same, and what is enough for the limit
pub record IsOutlook (log : GuestTouches) (asked : AskedPrediction) (outlook : Outlook) : Type 0 where
  pub is_prediction : IsPrediction asked.manner log.pages log.touches asked.scale asked.limits asked.settings
      outlook.prediction
  pub are_errors : AreErrors asked.manner log.pages log.touches asked.settings asked.scale outlook.errors
  pub is_forecast : IsForecast log.pages log.touches asked.scale asked.limits asked.settings outlook.looks
  pub are_ranges : AreRangesOver log asked.settings (measure_of asked) outlook.ranges
  pub is_agreement : IsAgreement asked.manner log.pages log.touches asked.settings asked.scale asked.limits
      outlook.agreement
  pub is_share : IsLinkShare (VerdictAt log.pages log.touches (trial_of asked)) outlook.share
  pub are_remedies : AreRemedies log.pages log.touches (trial_of asked) outlook.remedies

-- whether the record ends before a hypervisor's migration
abbrev pub is_cut : PlanEnd → Bool
is_cut record_ends = true
is_cut few_left = false
is_cut looks_done = false

-- Whether a forecast is told beside a prediction. If that goes by looks too, the forecast has the same numbers, unless
-- the record ends first: then it has what is sent and left until there.
abbrev pub tells_of : Manner → Option LookForecast → Bool
tells_of manners.Rounds forecast = true
tells_of manners.Looks None = false
tells_of manners.Looks (Some forecast) = is_cut forecast.end

abbrev pub tells_looks : Outlook → Bool
tells_looks outlook = tells_of outlook.prediction.manner outlook.looks
